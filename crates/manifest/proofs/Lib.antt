pub mod Added
pub mod Bound
pub mod Declares
pub mod Lines
pub mod Marks
pub mod Stores
pub mod Twice

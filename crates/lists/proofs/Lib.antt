pub mod Finds
pub mod Pushed

pub mod Line
pub mod Lines
pub mod Paths
pub mod Runs
pub mod Shown
pub mod Spelling
pub mod Steps
pub mod Tokens

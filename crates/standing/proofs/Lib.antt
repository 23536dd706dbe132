pub mod Failing
pub mod Checked
pub mod Moves
pub mod Opening
pub mod Sounds

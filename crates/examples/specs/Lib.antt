pub mod Examples
pub mod Planned

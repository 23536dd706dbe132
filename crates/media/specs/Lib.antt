pub mod Memory
pub mod Fill
pub mod Told
pub mod View

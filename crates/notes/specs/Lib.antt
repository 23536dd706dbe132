pub mod Notes
pub mod Meant
pub mod Compacting
pub mod Latest
pub mod Wholeness
pub mod Laws

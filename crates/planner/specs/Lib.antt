pub mod Letters
pub mod Noted
pub mod Stale

pub mod Faulty
pub mod Few
pub mod Lists
pub mod Names
pub mod Places
pub mod Refusals

pub mod First
pub mod Grown
pub mod Order
pub mod Orders
pub mod Words

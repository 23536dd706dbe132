pub mod Names
pub mod Numbers
pub mod Said

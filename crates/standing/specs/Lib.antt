pub mod Standing
pub mod Laws

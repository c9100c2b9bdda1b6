pub mod Language
pub mod Laws

pub mod Regrouped
pub mod Laws
pub mod Unions
pub mod Thirteen

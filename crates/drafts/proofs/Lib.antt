pub mod Laws
pub mod Small
pub mod Stays

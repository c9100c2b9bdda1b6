pub mod Same
pub mod Members
pub mod Laws

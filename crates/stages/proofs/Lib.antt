pub mod Fates
pub mod Laws
pub mod Stations

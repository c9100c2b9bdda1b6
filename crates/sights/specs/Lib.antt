pub mod Rulings
pub mod Glances

pub mod Glances

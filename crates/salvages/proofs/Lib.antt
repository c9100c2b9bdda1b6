pub mod Assembly
pub mod Begins
pub mod Started

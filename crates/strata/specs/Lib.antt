pub mod Particles
pub mod Promises

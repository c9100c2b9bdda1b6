pub mod SoFar
pub mod Promises

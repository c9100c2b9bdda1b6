pub mod Held
pub mod Promises

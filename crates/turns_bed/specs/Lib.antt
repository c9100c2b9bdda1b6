pub mod Turned
pub mod Promises

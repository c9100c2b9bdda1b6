pub mod Resumed
pub mod Promises

pub mod Bound
pub mod Promises

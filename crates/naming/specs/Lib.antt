pub mod ByName
pub mod Promises

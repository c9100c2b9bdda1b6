pub mod Held
pub mod Step
pub mod Call
pub mod Promises
pub mod Parts

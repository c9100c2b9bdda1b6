pub mod Standing
pub mod Promises
pub mod Worked

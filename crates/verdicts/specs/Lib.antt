pub mod Judged
pub mod Promises
pub mod Steps

pub mod TooMany
pub mod Written
pub mod Promises

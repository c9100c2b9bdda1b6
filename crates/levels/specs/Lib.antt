pub mod Levels
pub mod Sizes
pub mod Promises

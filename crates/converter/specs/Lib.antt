pub mod Answered
pub mod Bytes
pub mod Fed
pub mod Promises
pub mod ReadsBack
pub mod Explained
pub mod Inner

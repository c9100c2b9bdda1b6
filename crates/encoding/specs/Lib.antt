pub mod Mentions
pub mod Distinct
pub mod Encoded
pub mod Keeps
pub mod Sound
pub mod Promises

pub mod Seen
pub mod Stepped
pub mod Taken
pub mod Parts

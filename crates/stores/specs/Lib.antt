pub mod Rows
pub mod Filed
pub mod Mentioned
pub mod Promises

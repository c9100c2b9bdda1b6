pub mod Trodden
pub mod Space
pub mod Promises

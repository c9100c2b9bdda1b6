pub mod Once
pub mod Strings
pub mod Broken

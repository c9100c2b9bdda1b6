pub mod Headway
pub mod Steps

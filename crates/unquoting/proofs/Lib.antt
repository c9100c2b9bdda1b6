pub mod Quoting
pub mod Reading

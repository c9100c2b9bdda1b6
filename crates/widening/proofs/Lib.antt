pub mod Alike
pub mod Programs
pub mod Acts
pub mod Steps
pub mod Calls
pub mod Sheets
pub mod Main

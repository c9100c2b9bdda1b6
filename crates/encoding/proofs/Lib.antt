pub mod Sound
pub mod Stored
pub mod Sheets

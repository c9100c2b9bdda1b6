pub mod Sheets
pub mod Laws

pub mod Lists
pub mod Rows
pub mod Beds
pub mod Pieces
pub mod Promises

pub mod Moves
pub mod Calls

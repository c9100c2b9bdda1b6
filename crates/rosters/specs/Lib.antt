pub mod Names
pub mod Rosters
pub mod Promises

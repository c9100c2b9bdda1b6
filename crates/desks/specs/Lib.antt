pub mod Spots
pub mod Kept

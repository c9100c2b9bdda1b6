pub mod Lists
pub mod Spots
pub mod Frames
pub mod Theorems
pub mod Reached
pub mod Steps
pub mod RunsFit
pub mod Balanced

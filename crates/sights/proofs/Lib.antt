pub mod Bounds
pub mod Seen
pub mod Rest
pub mod Rulings

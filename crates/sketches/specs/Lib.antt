pub mod Figures
pub mod Kept
pub mod Moves
pub mod Promises
pub mod Sketched

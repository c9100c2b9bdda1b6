pub mod Spellings
pub mod Sorts
pub mod Pieces

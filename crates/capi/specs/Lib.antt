pub mod Packed
pub mod Counted
pub mod Started
pub mod RunAnswer
pub mod Salvaging

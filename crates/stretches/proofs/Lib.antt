pub mod Nexts
pub mod Stretching
pub mod Carrying

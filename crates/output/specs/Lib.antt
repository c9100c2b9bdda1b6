pub mod Escape
pub mod Reach

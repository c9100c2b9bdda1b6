pub mod Tails
pub mod Tags
pub mod Lines
pub mod Wholes
pub mod Behinds

pub mod Left
pub mod Begun

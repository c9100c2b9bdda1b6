pub mod Tags
pub mod Sections

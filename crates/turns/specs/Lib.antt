pub mod Stands
pub mod Turned

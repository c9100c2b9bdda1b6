pub mod Tags
pub mod TagTests
pub mod Productions
pub mod Fields
pub mod FieldTests
pub mod Grounded
pub mod Defect
pub mod Sheet

pub mod Extents
pub mod Kinds
pub mod Conditions
pub mod Statements
pub mod Shape
pub mod Promises

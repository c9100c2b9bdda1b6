pub mod Measures
pub mod Conditions
pub mod Layers
pub mod Statements
pub mod Outlines
pub mod Shapes

pub mod Literal
pub mod Stretched

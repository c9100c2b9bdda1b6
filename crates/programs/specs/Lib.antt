pub mod Program
pub mod Bounds
pub mod Limits
pub mod Section
pub mod Parsed
pub mod Numbers

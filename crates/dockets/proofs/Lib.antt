pub mod Noting
pub mod Concluding

pub mod Evaluated
pub mod Written
pub mod Ran
pub mod Performed

pub mod Refusals
pub mod Sizes
pub mod Worked
pub mod Strings
pub mod Rows

pub mod Laws
pub mod Meant
pub mod Written
pub mod Gathered
pub mod Back
pub mod Sizes
pub mod Tidy
pub mod Widths

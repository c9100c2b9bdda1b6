pub mod Lying
pub mod Evaluating
pub mod Settling
pub mod Printing
pub mod Running
pub mod Performing
pub mod Theorems

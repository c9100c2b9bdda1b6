pub mod Entered
pub mod Figures
pub mod Fitting
pub mod Kept
pub mod Braces
pub mod Promises
pub mod Steps

pub mod One
pub mod Back
pub mod Fewest
pub mod Sizes
pub mod Typing
pub mod Exists

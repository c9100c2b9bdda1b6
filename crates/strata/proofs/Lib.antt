pub mod Marks
pub mod Laws
pub mod Sizes
pub mod Promises

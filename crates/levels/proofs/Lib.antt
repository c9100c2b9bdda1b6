pub mod Counting
pub mod Laws
pub mod Measuring
pub mod Promises

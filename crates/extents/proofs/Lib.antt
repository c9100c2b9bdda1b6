pub mod KindTests
pub mod Stacks
pub mod Parts

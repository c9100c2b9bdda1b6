pub mod Basics
pub mod Broken
pub mod Records
pub mod Others
pub mod Strides

pub mod Order
pub mod Own
pub mod Stands
pub mod Answers

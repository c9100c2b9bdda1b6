pub mod Nodes
pub mod Bedded
pub mod Promises

pub mod Seen
pub mod Standing
pub mod Acted
pub mod Visited

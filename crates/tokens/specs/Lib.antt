pub mod Tokens
pub mod Stream
pub mod Parts
pub mod LineEnds
pub mod Numbers
pub mod Inner

pub mod Conditions
pub mod Bodies
pub mod Strokes
pub mod Promises

pub mod Held
pub mod Walks
pub mod Answers

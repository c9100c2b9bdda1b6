pub mod Cut
pub mod Least
pub mod Walks
pub mod Answers

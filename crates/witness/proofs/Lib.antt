pub mod Operations
pub mod Walks
pub mod Places
pub mod Signs
pub mod Answers

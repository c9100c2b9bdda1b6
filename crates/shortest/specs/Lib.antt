pub mod Leads
pub mod Rows
pub mod Held
pub mod Walks
pub mod Answers
pub mod Promises

pub mod Rows
pub mod Places
pub mod Outcomes
pub mod Files

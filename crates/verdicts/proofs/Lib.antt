pub mod Judging
pub mod Stepping

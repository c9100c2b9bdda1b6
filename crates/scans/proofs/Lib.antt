pub mod Limits
pub mod Declaration
pub mod Gaps

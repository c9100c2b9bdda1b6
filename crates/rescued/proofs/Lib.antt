pub mod One
pub mod Alone

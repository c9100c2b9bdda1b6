pub mod Search
pub mod Acceptable
pub mod Bytes
pub mod Lexical
pub mod Texts
pub mod OneRules

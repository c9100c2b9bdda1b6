pub mod Phrases
pub mod Conditions
pub mod Quoted
pub mod Programs
pub mod Expressions
pub mod Text
pub mod Worked

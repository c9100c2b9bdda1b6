pub mod Statements
pub mod Expressions
pub mod Rules

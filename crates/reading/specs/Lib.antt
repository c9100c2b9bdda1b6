pub mod Machine
pub mod Reads
pub mod Tests
pub mod Conditions
pub mod Statements
pub mod Expressions
pub mod Rules
pub mod Promises

pub mod Spacing
pub mod Conditions
pub mod Programs
pub mod Expressions
pub mod Text
pub mod Promises
pub mod Worked

pub mod Plain
pub mod Rules
pub mod Typed
pub mod Sections
pub mod Answers
pub mod Worked

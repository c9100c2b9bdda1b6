pub mod Rules
pub mod Sections
pub mod Declares
pub mod Promises
pub mod Worked

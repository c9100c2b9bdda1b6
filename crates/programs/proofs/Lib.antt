pub mod Agree
pub mod Reading
pub mod Forms
pub mod Characters
pub mod Sections
pub mod Numbers

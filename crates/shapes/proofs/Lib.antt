pub mod Walks
pub mod Stars
pub mod Naming
pub mod Telling
pub mod Marking

pub mod Names
pub mod Firsts
pub mod Blanks
pub mod Answers

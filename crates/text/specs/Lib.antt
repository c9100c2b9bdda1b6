pub mod Chars
pub mod Names
pub mod Numerals
pub mod Characters
pub mod Numbers

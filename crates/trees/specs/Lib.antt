pub mod Trees
pub mod GrammarAt
pub mod Symbol
pub mod Parsed
pub mod Tally
pub mod Answers
pub mod Sums
pub mod Numbers

pub mod Answers
pub mod Standings
pub mod Machines

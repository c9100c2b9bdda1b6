pub mod Weighed
pub mod Counting
pub mod Found
pub mod Rounds

pub mod Held
pub mod Spot
pub mod Past
pub mod Walks
pub mod Answers

pub mod OneAnswer
pub mod Round

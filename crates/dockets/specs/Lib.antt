pub mod Kept
pub mod Noted
pub mod Concluded

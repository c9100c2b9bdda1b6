pub mod Parting
pub mod Tallied
pub mod Listed
pub mod Faults

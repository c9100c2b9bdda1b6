pub mod Programs
pub mod Tags
pub mod Ways
pub mod Moves
pub mod Calls
pub mod Faults
pub mod Ground

pub mod Bounds
pub mod Changes
pub mod Meaning
pub mod Bytes
pub mod Canonical

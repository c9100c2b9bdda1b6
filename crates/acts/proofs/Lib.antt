pub mod Fields
pub mod Echoing
pub mod Acting
pub mod Bracketing
pub mod Places
pub mod Theorems

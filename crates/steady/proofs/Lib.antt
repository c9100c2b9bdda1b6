pub mod Later
pub mod Steadies
pub mod Around

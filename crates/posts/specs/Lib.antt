pub mod Posts
pub mod ByKind
pub mod Found
pub mod Promises

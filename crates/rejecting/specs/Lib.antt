pub mod First
pub mod Named
pub mod Told
pub mod Promises

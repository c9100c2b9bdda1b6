pub mod Packed
pub mod Packs
pub mod Promises

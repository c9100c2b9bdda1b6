pub mod Shape
pub mod Shaped
pub mod Resumption
pub mod Salvage
pub mod Cut
pub mod NeverSent
pub mod TakenOf
pub mod Promises

pub mod Laid
pub mod Smallest
pub mod Sheet28
pub mod Sheet27
pub mod Streams
pub mod Table
pub mod Small

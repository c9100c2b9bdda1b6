pub mod Bytes
pub mod Alone
pub mod Fits
pub mod Salvaged

pub mod Front
pub mod Reads

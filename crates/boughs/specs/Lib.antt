pub mod Boughs

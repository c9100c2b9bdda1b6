pub mod Texts
pub mod Stacks

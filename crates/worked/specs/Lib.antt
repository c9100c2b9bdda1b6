pub mod Worked
pub mod Small

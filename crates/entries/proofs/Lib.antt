pub mod Laid
pub mod Entered

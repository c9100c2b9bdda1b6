pub mod Grows
pub mod Stands
pub mod Enrols

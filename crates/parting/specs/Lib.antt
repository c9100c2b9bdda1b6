pub mod Parting
pub mod Firsts
pub mod Laws

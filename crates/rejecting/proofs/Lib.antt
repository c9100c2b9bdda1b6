pub mod Firsts
pub mod Asked
pub mod Theorems
pub mod Rows
pub mod Events
pub mod Tokens
pub mod Entering
pub mod Refusals

pub mod Lending
pub mod Started

pub mod Lists
pub mod Conditions
pub mod Bodies
pub mod Does
pub mod Steps
pub mod Promises

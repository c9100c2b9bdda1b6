pub mod Grows
pub mod Compared
pub mod Found
pub mod Behind
pub mod Filing
pub mod Mentioning

pub mod Made
pub mod Small

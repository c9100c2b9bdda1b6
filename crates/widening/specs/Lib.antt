pub mod CallByCall
pub mod AsBefore

pub mod Expr
pub mod Words
pub mod Grammar
pub mod Fault
pub mod FaultList
pub mod Count
pub mod Decide
pub mod Listed

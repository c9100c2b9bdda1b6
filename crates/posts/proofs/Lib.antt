pub mod KindTests
pub mod Passing
pub mod Walking
pub mod Shown
pub mod Nodes

pub mod Here
pub mod Store
pub mod Nodes
pub mod Productions
pub mod Packing

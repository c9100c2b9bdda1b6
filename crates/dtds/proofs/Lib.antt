pub mod Settled
pub mod Strides

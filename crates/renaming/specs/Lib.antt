pub mod SameCalls
pub mod SameFaults
pub mod SameGround

pub mod Fit
pub mod Tests
pub mod InUse
pub mod RunFits

pub mod Part
pub mod Checked
pub mod Verdict

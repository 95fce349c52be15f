pub mod Waits
pub mod Updates

pub mod Asking
pub mod HowFar
pub mod Backing
pub mod Upto
pub mod Waits

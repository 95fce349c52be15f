pub mod Visits
pub mod Calls

pub mod Flags
pub mod Waiting
pub mod Later
pub mod Taking
pub mod Telling
pub mod Sleeps

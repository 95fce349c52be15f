pub mod Calling
pub mod Found
pub mod Reading

pub mod Wanted
pub mod Reports
pub mod Hashing
pub mod Builds
pub mod Growths

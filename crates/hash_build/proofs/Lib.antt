pub mod Reporting
pub mod Hashing
pub mod Passing
pub mod Moving
pub mod Resizing
pub mod Reaching

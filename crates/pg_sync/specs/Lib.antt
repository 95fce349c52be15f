pub mod Words
pub mod Schedule
pub mod Answer
pub mod Line
pub mod Make
pub mod Tallies

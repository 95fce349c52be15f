pub mod Lines
pub mod LineViews
pub mod Play
pub mod Moments
pub mod Answers
pub mod Replays
pub mod Texts

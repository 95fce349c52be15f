pub mod LineFacts
pub mod PlayFacts
pub mod TextFacts
pub mod ListFacts
pub mod Likeness
pub mod Keeping
pub mod HeaderFacts

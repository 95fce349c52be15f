pub mod Pairs
pub mod Looks
pub mod Ends
pub mod Works
pub mod Workers
pub mod AtTheEnd
pub mod Answers
pub mod Last

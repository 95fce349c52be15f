pub mod WordFacts
pub mod CompleteFacts
pub mod WrittenFacts
pub mod FaultlessFacts
pub mod TallyFacts
pub mod MakeFacts
pub mod ScheduleFacts

pub mod KindFacts
pub mod SignalFacts
pub mod SketchFacts
pub mod Crowds
pub mod MayStep
pub mod PassedStates
pub mod HeaderFacts

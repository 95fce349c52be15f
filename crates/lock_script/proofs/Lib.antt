pub mod LockLists
pub mod LockFacts
pub mod LockSketchFacts
pub mod Slots
pub mod Crowds
pub mod MayStep
pub mod PassedStates
pub mod HeaderFacts

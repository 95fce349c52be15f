pub mod Signals
pub mod SignalScripts
pub mod SignalSketch
pub mod Passed

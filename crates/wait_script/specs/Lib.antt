pub mod Waits
pub mod WaitScripts
pub mod WaitSketch
pub mod Passed

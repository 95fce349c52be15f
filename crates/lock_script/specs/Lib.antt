pub mod Locks
pub mod LockScripts
pub mod LockSketch
pub mod Passed

pub mod Tuples
pub mod Takes
pub mod Chains
pub mod OldHeads
pub mod Hashes

pub mod Walks

pub mod Totals
pub mod Roster
pub mod WordsAreMade

pub mod Totals
pub mod Stretches
pub mod Numbers
pub mod WordsAreMade

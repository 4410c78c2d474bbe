pub mod Standings
pub mod Patterning

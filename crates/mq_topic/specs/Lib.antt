pub mod Levels
pub mod Matching
pub mod WorkedMatches
pub mod Ceilings

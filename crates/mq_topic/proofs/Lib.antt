pub mod Cutting
pub mod MatchingLaws
pub mod AliasLaws

pub mod Exports
pub mod NumberLaws
pub mod ReadLaws
pub mod KeepLaws
pub mod ChosenLaws

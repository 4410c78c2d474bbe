pub mod FieldTypes
pub mod Fields
pub mod Left
pub mod Misspelled
pub mod Numbers
pub mod Plain
pub mod Spellings

pub mod Lists
pub mod Choices

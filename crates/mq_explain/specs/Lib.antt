pub mod Citing
pub mod Explaining
pub mod Listing

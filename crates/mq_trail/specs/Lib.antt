pub mod Resting
pub mod Following
pub mod Until
pub mod Sources
pub mod Rejudging
pub mod Comparing
pub mod Explaining

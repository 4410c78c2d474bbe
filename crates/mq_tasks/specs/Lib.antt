pub mod Choosing
pub mod Converting
pub mod Messages
pub mod Reviewing
pub mod Program
pub mod Inquiring
pub mod Lapses

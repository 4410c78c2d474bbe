pub mod Effects
pub mod Given
pub mod Streams
pub mod Troubles

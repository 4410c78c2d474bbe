pub mod Taking
pub mod Judgements
pub mod Knowing
pub mod Holding
pub mod Placings
pub mod Concerns
pub mod Selecting

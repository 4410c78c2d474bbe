pub mod Stopping
pub mod Chosen
pub mod Report
pub mod TypeNames
pub mod Unjudged
pub mod Coverage
pub mod Reasons
pub mod OneLine

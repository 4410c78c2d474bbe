pub mod Coverage
pub mod Unjudged
pub mod Gathering
pub mod Judging
pub mod Runner
pub use Rattle.mq_log.specs.Refusals
pub mod Watching
pub mod Telling

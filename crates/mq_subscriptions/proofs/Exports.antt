-- The laws on what the watchers of subscriptions keep that the crates above cite.
pub use Rattle.mq_subscriptions.proofs.AskingSizeLaws.{unanswered-within}

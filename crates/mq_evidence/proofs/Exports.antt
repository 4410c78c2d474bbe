-- The laws on evidence that the crates above cite.
pub use Rattle.mq_evidence.proofs.ConnectionEvidence.{evidence-on-connection}
pub use Rattle.mq_evidence.proofs.TurnLaws.{evidence-own}
pub use Rattle.mq_evidence.proofs.WholeLaws.{evidence-whole, on-session, shut-where-fails}

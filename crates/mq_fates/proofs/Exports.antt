-- The laws on watchers of sessions that the crates above cite.
pub use Rattle.mq_fates.proofs.BareLaws.{bare-awake, bare-unended}
pub use Rattle.mq_fates.proofs.BlameLaws.{blame_of, blamed-all, blamed-end, blamed-first, blamed-none, gains_blamed, gains_none, keeps_blamed, keeps_same, keeps_with_fault, left-all, left-first, place_at, within_kept}
pub use Rattle.mq_fates.proofs.ConcernLaws.{and2_false, closed-before, neither, nothing, only-none, same_cond, some-same}
pub use Rattle.mq_fates.proofs.ConnectionLaws.{binding-under, connection-descends, connection-most, held, named, numbers}
pub use Rattle.mq_fates.proofs.CountingLaws.{counted-session, none-counted, places-same}
pub use Rattle.mq_fates.proofs.JudgeLaws.{gains_judged, release-turns_with, session-turns_with}
pub use Rattle.mq_fates.proofs.KnowingLaws.{and-apart, and-out, excused-known, excused-late, placed-known}
pub use Rattle.mq_fates.proofs.KnownLaws.{Knows, given, given-gains, given-within, known-gains, known-within, knows}
pub use Rattle.mq_fates.proofs.SelectingLaws.{at_qos, received, sent}
pub use Rattle.mq_fates.proofs.SizeLaws.{distinct-passing, ids-listed, ids-more}

-- The laws on logs that the crates above cite. They cite no other file of these proofs.
pub use Rattle.mq_trace.proofs.ConvertingLaws.{converted_same}
pub use Rattle.mq_trace.proofs.EndLaws.{longest_most}
pub use Rattle.mq_trace.proofs.FeedingLaws.{pieces-are, some-taken, whole-taken}
pub use Rattle.mq_trace.proofs.StopLaws.{keeps_header}
pub use Rattle.mq_trace.proofs.WritingLaws.{appends-kept, appends-nothing, appends-then, all-left, piece-written, some-written, last-written, stopped-in-piece, stopped-in-last}

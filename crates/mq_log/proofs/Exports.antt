-- The laws on logs that the crates above cite. They cite no other file of these proofs.
pub use Rattle.mq_log.proofs.ContextLaws.{at_context, connected_context, context-after_header, context-grow, context-header, context-nothing, context_is, event-kept, events-header, events-kept, events-nothing, header-so_far, header_context, packet-kept, part_context, refusal-kept, refused-grow, refused-nothing, refused-stays, situation-kept, so_far_kept_by, unfinished-kept}
pub use Rattle.mq_log.proofs.FramingLaws.{ahead-unchanged, begun-grow, begun-header, body_byte, body_length-append, carried-own, cuts, head_least, header-unchanged, if_direction-append, if_direction-nothing, kind_of-append, record_size-is, records-grow, records-header, rest-grow, whole-grow}
pub use Rattle.mq_log.proofs.PiecesLaws.{grown, nothing_cut, pieces-cut, pieces-grow, pieces-only}
pub use Rattle.mq_log.proofs.StreamStateLaws.{frame_settles, nothing_lost, state-nothing}

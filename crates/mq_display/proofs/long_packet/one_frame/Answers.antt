use Rattle.std.proofs.Common.{arith, rules, ◌≤◌, length}
use Rattle.mq_display.proofs.OnePacketLaws.{taken_is_small, starts_inside}
use Rattle.mq_display.proofs.long_packet.one_frame.Goals as goal

pub slice_bounds-result-count : goal.slice_bounds-result-count
slice_bounds-result-count c = starts_inside c.args.bytes.now _ _ _ c.in-Frame.ensures.frame

pub slice_bounds-result-start : goal.slice_bounds-result-start
slice_bounds-result-start c =
    let inside : c.in-Frame.body_start ≤ length c.args.bytes.now = starts_inside c.args.bytes.now _ _ _ c.in-Frame.ensures.frame in
    search rules

pub returns-else-body_end-bytes-clause-size : goal.returns-else-body_end-bytes-clause-size
returns-else-body_end-bytes-clause-size c = taken_is_small c.args.bytes.now _ _ _ c.in-Frame.ensures.frame (omega (arith, c.if-body_end-bytes.false))

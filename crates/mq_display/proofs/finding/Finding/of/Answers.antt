-- The bytes are one packet exactly where they are one frame whose body spells one.
use Rattle.std.proofs.Common.{arith, rules, ◌≤◌, ◌<◌, ◌^◌, length}
use Rattle.mq_display.proofs.OnePacketLaws.{no_packet, needs_more, is_lost, ends_early, spelled_by_body, taken_is_small, starts_inside, ends_small}
use Rattle.mq_display.proofs.finding.Finding.of.Goals as goal

pub returns-in-Need-clause-one_packet : goal.returns-in-Need-clause-one_packet
returns-in-Need-clause-one_packet c = no_packet c.args.bytes.now _ c.in-Need.ensures.frame (λ first start. needs_more first start (length c.args.bytes.now))

pub returns-in-Lost-clause-one_packet : goal.returns-in-Lost-clause-one_packet
returns-in-Lost-clause-one_packet c = no_packet c.args.bytes.now _ c.in-Lost.ensures.frame (λ first start. is_lost first start (length c.args.bytes.now))

pub returns-then-body_end-bytes-clause-one_packet : goal.returns-then-body_end-bytes-clause-one_packet
returns-then-body_end-bytes-clause-one_packet c =
    no_packet c.args.bytes.now _ c.in-Frame.ensures.frame
    (λ first start. ends_early _ _ _ first start (length c.args.bytes.now) c.if-body_end-bytes.true)

pub overflow_cast-body_end : goal.overflow_cast-body_end
overflow_cast-body_end c =
    let small : c.in-Frame.body_end < 2 ^ 32 = ends_small c.args.bytes.now _ _ _ c.in-Frame.ensures.frame in
    omega arith

pub slice_bounds-of_frame-count : goal.slice_bounds-of_frame-count
slice_bounds-of_frame-count c = starts_inside c.args.bytes.now _ _ _ c.in-Frame.ensures.frame

pub slice_bounds-of_frame-start : goal.slice_bounds-of_frame-start
slice_bounds-of_frame-start c =
    let inside : c.in-Frame.body_start ≤ length c.args.bytes.now = starts_inside c.args.bytes.now _ _ _ c.in-Frame.ensures.frame in
    search rules

pub of_frame-requires : goal.of_frame-requires
of_frame-requires c = taken_is_small c.args.bytes.now _ _ _ c.in-Frame.ensures.frame (omega (arith, c.if-body_end-bytes.false))

pub returns-else-body_end-bytes-clause-one_packet : goal.returns-else-body_end-bytes-clause-one_packet
returns-else-body_end-bytes-clause-one_packet c =
    spelled_by_body c.args.bytes.now _ _ _ _ c.in-Frame.ensures.frame (omega (arith, c.if-body_end-bytes.false)) c.of_frame.ensures.spells

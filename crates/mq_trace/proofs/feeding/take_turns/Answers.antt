use Rattle.std.proofs.Common.{◌≡◌, ◌∙◌, ◌+◌, ◌≤◌, ◌++◌, arith, length, length-append, take, sym, rules}
use Rattle.mq_trace.proofs.FeedingLaws.{consumes-then, few-taken, room-after}
use Rattle.mq_trace.proofs.feeding.take_turns.Goals as goal

pub returns-in-Err-feed-clause-few : goal.returns-in-Err-feed-clause-few
returns-in-Err-feed-clause-few g c = λ room within.
    let had = c.turns.invariant in
    let piece = take c.in-Ok.count c.read.new.buffer in
    let few : c.in-Ok.count ≤ length c.args.buffer.now = search rules in
    record {
      bytes = had.0.log ++ piece;
      consumed = consumes-then _ _ _ had.0.log piece had.0.consumed c.in-Ok.ensures.bytes.0;
      few = few-taken _ _ _ _ _ _ room had.0.log piece had.3 had.0.count c.in-Ok.ensures.takes few (sym c.in-Ok.ensures.bound.1) within;
    }

pub turns-preserved-in-Ok-feed : goal.turns-preserved-in-Ok-feed
turns-preserved-in-Ok-feed g c =
    let had = c.turns.invariant in
    let piece = take c.in-Ok.count c.read.new.buffer in
    let few : c.in-Ok.count ≤ length c.args.buffer.now = search rules in
    let long : length piece ≡ c.in-Ok.count = sym c.in-Ok.ensures.bound.1 in
    let whole : length (had.0.log ++ piece) ≡ length had.0.log + length piece = length-append had.0.log piece in (
      record {
        log = had.0.log ++ piece;
        consumed = consumes-then _ _ _ had.0.log piece had.0.consumed c.in-Ok.ensures.bytes.0;
        followed = c.in-Ok-feed.ensures.follows had.0.log had.0.followed;
        within = c.in-Ok-feed.ensures.limit ∙ had.0.within;
        count = omega (arith, had.0.count, long, whole);
      },
      omega (arith, had.1, c.in-Ok.ensures.takes, few, c.requires.room.1),
      search rules,
      room-after _ _ _ _ _ _ had.3 c.in-Ok.ensures.takes few,
    )

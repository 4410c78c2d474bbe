use Rattle.std.proofs.Common.{◌≡◌, ◌+◌, ◌*◌, ◌^◌, ◌<◌, length}
use Rattle.mq_trace.proofs.FeedingLaws.{HasRoom, IsFed}
use Rattle.mq_trace.proofs.feeding.take_turns.Given as goal

abbrev pub invariant-turns : goal.invariant-turns
invariant-turns g l = IsFed g.F.Feed.limit g.F.Feed.follows (g.F.Feed.limit l.fn.feeder) (g.R.Read.remaining l.fn.reader) (g.R.Read.remaining l.reader) l.feeder l.sink l.fed
    × (l.fed + 65536 * l.turns.left < 65536 * 2 ^ 32)
    × (length l.buffer ≡ length l.fn.buffer)
    × HasRoom l.fed l.turns.left l.fn.turns.left (length l.fn.buffer)

abbrev pub decreases-turns : goal.decreases-turns
decreases-turns g l = l.turns.left

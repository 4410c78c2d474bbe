use Rattle.std.proofs.Common.{◌≡◌, length}
use Rattle.std.specs.Prelude.{nat_lt, reverse}
use Rattle.mq_rules.specs.Connections.{connection}
use Rattle.mq_rules.specs.ReceiveMaximum.{is_unfinished}
use Rattle.mq_plain.specs.Excess.{different, with_event}
use Rattle.mq_plain.proofs.further.excess.exceeds_earlier.Given as goal

-- what is left of the room decides about what is left to look at
abbrev pub invariant-loop-here : goal.invariant-loop-here
invariant-loop-here l = nat_lt l.room (different (is_unfinished (with_event l.event (reverse l.before))) (connection (reverse l.earlier)))
    ≡ nat_lt l.most (different (is_unfinished (with_event l.event (reverse l.before))) (connection (reverse l.before)))

abbrev pub decreases-loop-here : goal.decreases-loop-here
decreases-loop-here l = length l.earlier

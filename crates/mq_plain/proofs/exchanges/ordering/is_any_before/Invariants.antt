use Rattle.std.proofs.Common.{◌≡◌, ◌&&◌, nat_lt, length}
use Rattle.std.specs.Prelude.{reverse}
use Rattle.mq_rules.specs.Moments.{note, some}
use Rattle.mq_rules.specs.Connections.{connection}
use Rattle.mq_plain.specs.Unanswered.{is_first_in}
use Rattle.mq_plain.proofs.exchanges.ordering.is_any_before.Given as goal

-- what is left to look at decides
abbrev pub invariant-loop-event : goal.invariant-loop-event
invariant-loop-event g l = some (λ m. nat_lt (length m.past) l.first && is_first_in g.X.Exchange.exchange l.slots (length m.past) (note m)) (connection (reverse l.earlier))
    ≡ some (λ m. nat_lt (length m.past) l.first && is_first_in g.X.Exchange.exchange l.slots (length m.past) (note m)) (connection (reverse l.before))

abbrev pub decreases-loop-event : goal.decreases-loop-event
decreases-loop-event g l = length l.earlier

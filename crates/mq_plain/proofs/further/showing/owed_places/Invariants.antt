use Rattle.std.proofs.Common.{length}
use Rattle.std.specs.Prelude.{reverse}
use Rattle.mq_rules.specs.Moments.{IsPlaced}
use Rattle.mq_rules.specs.Connections.{begun}
use Rattle.mq_plain.specs.Owed.{owed_on}
use Rattle.mq_plain.proofs.OwedLaws.{LeadsTo}
use Rattle.mq_plain.proofs.further.showing.owed_places.Given as goal

-- the places so far, with those of what is left to look at, are all of them
abbrev pub invariant-loop-event : goal.invariant-loop-event
invariant-loop-event g l = IsPlaced (reverse l.before) → LeadsTo (owed_on g.T.LaterStatement.owing (begun (reverse l.before))) (reverse l.before) (reverse l.earlier) l.places.items

abbrev pub decreases-loop-event : goal.decreases-loop-event
decreases-loop-event g l = length l.earlier

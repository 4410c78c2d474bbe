use Rattle.std.proofs.Common.{◌≡◌, ◌≤◌, ◌-◌, drop}
use Rattle.mq_filters.specs.Standings.{is_near}
use Rattle.mq_filters.proofs.ceilings.is_alike.Given as goal

-- what follows the common bytes decides
abbrev pub invariant-loop-at : goal.invariant-loop-at
invariant-loop-at l = (l.at ≤ l.limit) × (is_near (drop l.at l.fn.filter) (drop l.at l.fn.topic) ≡ is_near l.fn.filter l.fn.topic)

abbrev pub decreases-loop-at : goal.decreases-loop-at
decreases-loop-at l = l.limit - l.at

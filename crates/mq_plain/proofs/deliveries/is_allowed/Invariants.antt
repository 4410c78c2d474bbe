use Rattle.std.proofs.Common.{◌≡◌, ◌≤◌, ◌++◌, Some, length, drop}
use Rattle.std.specs.Prelude.{reverse}
use Rattle.mq_rules.specs.Moments.{some}
use Rattle.mq_rules.specs.Connections.{session}
use Rattle.mq_plain.proofs.DeliveryLaws.{stands}
use Rattle.mq_plain.proofs.deliveries.is_allowed.Given as goal

-- what is left to look at decides, and with what was seen it is the whole list
abbrev pub invariant-loop-event : goal.invariant-loop-event
invariant-loop-event l = record {
  decides : some (stands l.topic l.least (reverse l.before)) (session l.role l.fate (reverse l.earlier)) ≡ some (stands l.topic l.least (reverse l.before)) (session l.role (Some l.fn.fate) (reverse l.before));
  within : length l.earlier ≤ length l.before;
  joined : l.earlier ++ drop (length l.earlier) l.before ≡ l.before;
}

abbrev pub decreases-loop-event : goal.decreases-loop-event
decreases-loop-event l = length l.earlier

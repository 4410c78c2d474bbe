use Rattle.std.proofs.Common.{◌≡◌, Some, length}
use Rattle.std.specs.Prelude.{reverse}
use Rattle.mq_rules.specs.Moments.{some}
use Rattle.mq_rules.specs.Connections.{session}
use Rattle.mq_rules.specs.Subscriptions.{asks_to_share}
use Rattle.mq_plain.proofs.deliveries.is_sharing.Given as goal

-- what is left to look at decides
abbrev pub invariant-loop-event : goal.invariant-loop-event
invariant-loop-event l = some asks_to_share (session l.role l.fate (reverse l.earlier)) ≡ some asks_to_share (session l.role (Some l.fn.fate) (reverse l.before))

abbrev pub decreases-loop-event : goal.decreases-loop-event
decreases-loop-event l = length l.earlier

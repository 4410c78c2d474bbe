use Rattle.std.proofs.Common.{◌≡◌, length}
use Rattle.std.specs.Prelude.{reverse}
use Rattle.mq_rules.specs.Connections.{connection}
use Rattle.mq_rules.specs.Subscriptions.{last_set}
use Rattle.mq_plain.proofs.deliveries.last_topic.Given as goal

-- what is left to look at decides
abbrev pub invariant-loop-event : goal.invariant-loop-event
invariant-loop-event l = last_set l.alias (connection (reverse l.earlier)) ≡ last_set l.alias (connection (reverse l.before))

abbrev pub decreases-loop-event : goal.decreases-loop-event
decreases-loop-event l = length l.earlier

use Rattle.std.proofs.Common.{◌≡◌, length}
use Rattle.mq_rules.specs.Subscriptions.{some_granted}
use Rattle.mq_subscriptions.specs.Grantings.{granted_as}
use Rattle.mq_subscriptions.proofs.grants.any_granted.Given as goal

-- what is left decides
abbrev pub invariant-loop-qos : goal.invariant-loop-qos
invariant-loop-qos l = some_granted (granted_as l.above) l.asked l.codes ≡ some_granted (granted_as l.above) l.fn.asked l.fn.codes

abbrev pub decreases-loop-qos : goal.decreases-loop-qos
decreases-loop-qos l = length l.asked

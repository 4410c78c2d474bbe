use Rattle.std.proofs.Common.{◌≡◌}
use Rattle.mq_topic.specs.Matching.{matches}
use Rattle.mq_subscriptions.specs.Matchings.{bearing, serves, some_waits}
use Rattle.mq_subscriptions.proofs.subscribed.any_named.Given as goal

-- those that are left decide
abbrev pub invariant-loop-identifier : goal.invariant-loop-identifier
invariant-loop-identifier l = some_waits (serves (bearing l.identifier) (λ f. matches f l.fn.topic) 0) l._identifier-iterator ≡ some_waits (serves (bearing l.identifier) (λ f. matches f l.fn.topic) 0) l.fn.waiting.entries

use Rattle.std.proofs.Common.{◌≡◌, ◌||◌, ℕ, Bool, List}
use Rattle.std.specs.List.{list_any}
use Rattle.mq_topic.specs.Matching.{matches}
use Rattle.mq_subscriptions.specs.Matchings.{Question, passing, serves, some_waits, least}
use Rattle.mq_subscriptions.specs.Subscribings.{says}
use Rattle.mq_subscriptions.proofs.subscribed.Matched.with_all.Given as goal

-- with those that are left, it says what all do
abbrev pub invariant-loop-identifier : goal.invariant-loop-identifier
invariant-loop-identifier l = (question : Question) (qos : ℕ) → (says l.matched question qos || some_waits (serves (passing question) (λ f. matches f l.fn.topic) (least question qos)) l._identifier-iterator) ≡ (says l.fn.self question qos || some_waits (serves (passing question) (λ f. matches f l.fn.topic) (least question qos)) l.fn.waiting.entries)

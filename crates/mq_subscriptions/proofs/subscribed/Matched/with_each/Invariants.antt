use Rattle.std.proofs.Common.{◌≡◌, ◌||◌, ℕ, Bool, List, [], length}
use Rattle.std.specs.List.{list_any}
use Rattle.mq_topic.specs.Matching.{matches}
use Rattle.mq_rules.specs.MatchingSubscriptions.{subscribed_by}
use Rattle.mq_subscriptions.specs.Matchings.{Question, passing, serves, least}
use Rattle.mq_subscriptions.specs.Subscribings.{says}
use Rattle.mq_subscriptions.proofs.subscribed.Matched.with_each.Given as goal

-- with those that are left, it says what all do
abbrev pub invariant-loop-filter : goal.invariant-loop-filter
invariant-loop-filter l = (question : Question) (qos : ℕ) → (says l.matched question qos || list_any (serves (passing question) (λ f. matches f l.fn.topic) (least question qos)) (subscribed_by l.fn.identifier l.filters [])) ≡ (says l.fn.self question qos || list_any (serves (passing question) (λ f. matches f l.fn.topic) (least question qos)) (subscribed_by l.fn.identifier l.fn.filters []))

abbrev pub decreases-loop-filter : goal.decreases-loop-filter
decreases-loop-filter l = length l.filters

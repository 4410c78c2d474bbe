use Rattle.std.proofs.Common.{◌≡◌, ◌||◌, ℕ, Bool, List, length}
use Rattle.std.specs.List.{list_any}
use Rattle.mq_rules.specs.MatchingSubscriptions.{subscribed_by}
use Rattle.mq_filters.specs.Standings.{allows}
use Rattle.mq_subscriptions.specs.Matchings.{Kind, serves}
use Rattle.mq_subscriptions.specs.Subscribings.{set_of}
use Rattle.mq_subscriptions.proofs.subscribed.Settled.add_each.Given as goal

-- with the filters that are left, all come to be added
abbrev pub invariant-loop-filter : goal.invariant-loop-filter
invariant-loop-filter l = (kind : Kind) (among : List ℕ → Bool) (least : ℕ) → (list_any (allows among least) (set_of l.self kind) || list_any (serves kind among least) (subscribed_by l.identifier l.filters l.codes)) ≡ (list_any (allows among least) (set_of l.initial.self kind) || list_any (serves kind among least) (subscribed_by l.identifier l.fn.filters l.fn.codes))

abbrev pub decreases-loop-filter : goal.decreases-loop-filter
decreases-loop-filter l = length l.filters

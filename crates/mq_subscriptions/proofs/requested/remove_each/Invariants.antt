use Rattle.std.proofs.Common.{◌≡◌, ◌++◌, ℕ, List, length}
use Rattle.indexmap.specs.IndexMap.{get_by_text}
use Rattle.mq_rules.specs.FurtherSubscriptions.{subscribed_each}
use Rattle.mq_subscriptions.specs.Deletings.{asked_each, is_granted}
use Rattle.mq_subscriptions.proofs.requested.remove_each.Given as goal

-- with the filters that are left, all have it, and it is known whether a subscription stood to each
abbrev pub invariant-loop-filter : goal.invariant-loop-filter
invariant-loop-filter l =
    (l.subscribed.items ++ subscribed_each (λ f. is_granted (get_by_text l.states f)) l.filters ≡ subscribed_each (λ f. is_granted (get_by_text l.initial.states f)) l.fn.filters)
    × ((f : List ℕ) → asked_each l.at 0 l.filters f (get_by_text l.states f) ≡ asked_each l.at 0 l.fn.filters f (get_by_text l.initial.states f))

abbrev pub decreases-loop-filter : goal.decreases-loop-filter
decreases-loop-filter l = length l.filters

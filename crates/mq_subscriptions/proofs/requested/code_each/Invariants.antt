use Rattle.std.proofs.Common.{◌≡◌, ℕ, List, length}
use Rattle.indexmap.specs.IndexMap.{get_by_text}
use Rattle.mq_subscriptions.specs.Deletings.{coded_each}
use Rattle.mq_subscriptions.proofs.requested.code_each.Given as goal

-- with the filters and the Reason Codes that are left, all have theirs
abbrev pub invariant-loop-filter : goal.invariant-loop-filter
invariant-loop-filter l = (f : List ℕ) → coded_each l.at l.filters l.codes f (get_by_text l.states f) ≡ coded_each l.at l.fn.filters l.fn.codes f (get_by_text l.initial.states f)

abbrev pub decreases-loop-filter : goal.decreases-loop-filter
decreases-loop-filter l = length l.filters

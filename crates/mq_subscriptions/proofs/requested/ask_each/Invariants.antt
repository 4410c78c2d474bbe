use Rattle.std.proofs.Common.{◌≡◌, ℕ, List, length}
use Rattle.indexmap.specs.IndexMap.{get_by_text}
use Rattle.mq_subscriptions.specs.Deletings.{asked_each}
use Rattle.mq_subscriptions.proofs.requested.ask_each.Given as goal

-- with the filters that are left, all have it
abbrev pub invariant-loop-filter : goal.invariant-loop-filter
invariant-loop-filter l = (f : List ℕ) → asked_each l.at 1 l.filters f (get_by_text l.states f) ≡ asked_each l.at 1 l.fn.filters f (get_by_text l.initial.states f)

abbrev pub decreases-loop-filter : goal.decreases-loop-filter
decreases-loop-filter l = length l.filters

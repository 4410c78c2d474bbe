use Rattle.std.proofs.Common.{◌≡◌, length}
use Rattle.indexmap.specs.IndexMap.{get_by_text}
use Rattle.mq_subscriptions.specs.Deletings as deletings
use Rattle.mq_subscriptions.proofs.deletions.telling.denies.Given as goal

-- what is left decides
abbrev pub invariant-loop-filter : goal.invariant-loop-filter
invariant-loop-filter l =
    deletings.some_stood (λ f. deletings.is_last l.at (get_by_text l.states f)) (deletings.denies l.wide) l.filters l.subscribed l.codes ≡ deletings.some_stood (λ f. deletings.is_last l.at (get_by_text l.states f)) (deletings.denies l.wide) l.fn.filters l.fn.subscribed l.fn.codes

abbrev pub decreases-loop-filter : goal.decreases-loop-filter
decreases-loop-filter l = length l.filters

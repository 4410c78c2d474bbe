use Rattle.std.proofs.Common.{◌≡◌, length}
use Rattle.indexmap.specs.IndexMap.{get_by_text}
use Rattle.mq_rules.specs.FurtherSubscriptions.{some_coded}
use Rattle.mq_subscriptions.specs.Deletings as deletings
use Rattle.mq_subscriptions.proofs.deletions.telling.invents.Given as goal

-- what is left decides
abbrev pub invariant-loop-filter : goal.invariant-loop-filter
invariant-loop-filter l =
    some_coded (λ g code. deletings.invents l.wide (deletings.stands (get_by_text l.states g.filter)) code) l.filters l.codes ≡ some_coded (λ g code. deletings.invents l.wide (deletings.stands (get_by_text l.states g.filter)) code) l.fn.filters l.fn.codes

abbrev pub decreases-loop-filter : goal.decreases-loop-filter
decreases-loop-filter l = length l.filters

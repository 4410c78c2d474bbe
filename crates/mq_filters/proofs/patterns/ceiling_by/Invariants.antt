use Rattle.std.proofs.Common.{◌≡◌, nat_le, ℕ, take}
use Rattle.std.specs.List.{list_any}
use Rattle.indexmap.specs.IndexMap.{get_by_text}
use Rattle.mq_filters.specs.Standings.{has_ceiling}
use Rattle.mq_filters.specs.Patterning.{fill}
use Rattle.mq_filters.proofs.patterns.ceiling_by.Given as goal

-- it allows what the patterns so far do
abbrev pub invariant-loop-pattern : goal.invariant-loop-pattern
invariant-loop-pattern l = (qos : ℕ) → has_ceiling (nat_le qos) l.best ≡ list_any (λ s. has_ceiling (nat_le qos) (get_by_text l.fn.wild (fill s l.fn.topic))) (take l.pattern-index l.fn.patterns)

use Rattle.std.proofs.Common.{◌≡◌, take}
use Rattle.mq_rules.proofs.copying.copy_filters.Given as goal

-- the filters up to here are copied
abbrev pub invariant-loop-filter : goal.invariant-loop-filter
invariant-loop-filter l = l.copies.items ≡ take l.filter-index l.filters

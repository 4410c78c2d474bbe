use Rattle.std.proofs.Common.{◌≡◌, map, ◌++◌}
use Rattle.mq_rules.specs.Notes.{filter_note}
use Rattle.mq_rules.proofs.copying.note_filters.Given as goal

-- what is noted, and what is left to note, are all filters
abbrev pub invariant-loop-filter : goal.invariant-loop-filter
invariant-loop-filter l = l.notes.items ++ map filter_note l.filter-iterator ≡ map filter_note l.fn.filters

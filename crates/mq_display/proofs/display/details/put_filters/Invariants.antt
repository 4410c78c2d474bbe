use Rattle.std.specs.List.{flat_map}
use Rattle.mq_display.specs.Details.{filter_words}
use Rattle.mq_display.specs.ItemText.{with_spaces}
use Rattle.mq_display.proofs.DetailLaws.{PutsSome}
use Rattle.mq_display.proofs.display.details.put_filters.Given as goal

abbrev pub invariant-loop-filter : goal.invariant-loop-filter
invariant-loop-filter g l =
    PutsSome g.W.Write.contents l.fn.out (with_spaces (flat_map filter_words l.fn.filters)) (with_spaces (flat_map filter_words l.filter-iterator)) l.out

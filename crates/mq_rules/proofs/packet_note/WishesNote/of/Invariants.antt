use Rattle.std.proofs.Common.{◌≡◌}
use Rattle.mq_rules.specs.Wishes.{wishes_of}
use Rattle.mq_rules.proofs.WishesLaws.{wishes_with_all}
use Rattle.mq_rules.proofs.packet_note.WishesNote.of.Given as goal

-- what was asked for, and what the filters that are left ask for, is all of it
abbrev pub invariant-loop-filter : goal.invariant-loop-filter
invariant-loop-filter l = wishes_with_all l.wishes l.filter-iterator ≡ wishes_of l.fn.identifier l.fn.filters

use Rattle.std.proofs.Common.{◌≡◌, ◌<◌, ℕ, false, length, slice_index_or}
use Rattle.mq_rules.specs.declared.rule.Rule.TheVariants.{W01}
use Rattle.mq_choice.specs.Lists.{chosen_by}
use Rattle.mq_choice.proofs.list.flags_among.Given as goal

abbrev pub invariant-loop-number : goal.invariant-loop-number
invariant-loop-number l = (length l.flags ≡ 128) × ((i : ℕ) → i < l.number → slice_index_or l.flags i false ≡ chosen_by l.list (slice_index_or l.rules i W01))

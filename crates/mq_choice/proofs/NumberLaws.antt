-- The numbers of statements, in the order of reports.
use Rattle.std.proofs.Common.{◌≡◌, ◌≤◌, ◌<◌, arith, length, refl, true, nat_lt, nat_le, slice_index_or}
use Rattle.std.proofs.lemmas.Bool.{ltb-true}
use Rattle.mq_rules.specs.Rules.{all_rules, lines}
use Rattle.mq_rules.specs.declared.rule.Rule.{Rule}
use Rattle.mq_rules.specs.declared.rule.Rule.TheVariants as rules
use Rattle.mq_rules.specs.declared.rule.Rule.TheVariants.{W01}
use Rattle.mq_choice.specs.Choices.{number_of}

-- there is a flag for each statement
pub few : length all_rules ≤ 128
unfolding lines
few = omega arith

-- each statement has its number
pub numbered : (rule : Rule) → slice_index_or all_rules (number_of rule) W01 ≡ rule
unfolding lines
numbered rules.W01 = refl
numbered _ = refl

is_within : (rule : Rule) → nat_lt (number_of rule) (length all_rules) ≡ true
unfolding lines
is_within rules.W01 = refl
is_within _ = refl

pub within : (rule : Rule) → number_of rule < length all_rules
within rule = ltb-true (number_of rule) (length all_rules) (is_within rule)

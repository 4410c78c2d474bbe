-- The table has a row for each statement, in ascending order.
use Rattle.std.proofs.Common.{◌≡◌, Bool, true, false, ◌&&◌, ◌||◌, List, [], ◌∷◌, refl}
use Rattle.std.specs.Prelude.{T}
use Rattle.std.specs.declared.cmp.Ordering.{Ordering}
use Rattle.std.specs.Ordering.{is_lt}
use Rattle.mq_rules.specs.contracts.rule.RuleOrd.TheImpl as rule_ord
use Rattle.mq_rules.specs.declared.rule.Rule.{Rule}
use Rattle.mq_rules.specs.declared.rule.Rule.TheVariants.{W01}
use Rattle.mq_rules.specs.Rules.{same_rule, all_rules, lines}

abbrev pub rule_cmp : Rule → Rule → Ordering
rule_cmp = (rule_ord.ghosts).cmp

-- the statement is below each of these
abbrev pub rises : Rule → List Rule → Bool
rises r [] = true
rises r (s ∷ ss) = is_lt (rule_cmp r s) && rises r ss

abbrev pub all_rise : List Rule → Bool
all_rise [] = true
all_rise (s ∷ ss) = rises s ss && all_rise ss

-- the statement is one of these
abbrev pub has : Rule → List Rule → Bool
has r [] = false
has r (s ∷ ss) = same_rule r s || has r ss

pub rows_rise : T (all_rise all_rules)
unfolding lines
rows_rise = tt

pub rows_have : (r : Rule) → has r all_rules ≡ true
unfolding lines
rows_have W01 = refl
rows_have _ = refl

-- Which statements' evidence is the REST that shows the fault.
use Rattle.std.specs.Prelude.{Bool, true, false}
use Rattle.mq_rules.specs.declared.rule.Rule.{Rule}
use Rattle.mq_rules.specs.declared.rule.Rule.TheVariants.{E1R, E2R, E3R, E4R, E5R, E6R, C24, D01, D02, D03, D05}

-- an answer is missing
abbrev pub is_silent : Rule → Bool
is_silent E1R = true
is_silent E2R = true
is_silent E3R = true
is_silent E4R = true
is_silent E5R = true
is_silent E6R = true
is_silent C24 = true
is_silent D01 = true
is_silent D02 = true
is_silent D03 = true
is_silent D05 = true
is_silent _ = false

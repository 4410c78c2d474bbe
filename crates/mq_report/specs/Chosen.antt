-- The statements that are judged.
use Rattle.std.specs.Prelude.{Bool, true}
use Rattle.mq_rules.specs.declared.role.Tested.{Tested}
use Rattle.mq_rules.specs.declared.rule.Rule.{Rule}

-- all of them, where they bind the tested end; the further ones bind it only if they are asked for
abbrev pub is_judged : Tested → Rule → Bool
is_judged tested rule = true

use Rattle.std.proofs.Common.{◌∙◌}
use Rattle.mq_rules.specs.declared.role.Role.TheVariants.{Client}
use Rattle.mq_display.proofs.CodeLaws.{code_is}
use Rattle.mq_display.proofs.item.rule_code.Goals as goal

pub returns : goal.returns
returns c = c.code.ensures ∙ code_is c.of.result c.args.rule (c.of.ensures Client)

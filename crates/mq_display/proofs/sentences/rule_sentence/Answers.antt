use Rattle.std.proofs.Common.{ap, ◌∙◌}
use Rattle.mq_rules.specs.Naming.{sentence_of}
use Rattle.mq_rules.specs.declared.role.Role.TheVariants.{Client}
use Rattle.mq_display.proofs.CodeLaws.{statement_is}
use Rattle.mq_display.proofs.sentences.rule_sentence.Goals as goal

pub returns : goal.returns
returns c = c.sentence.ensures ∙ ap sentence_of (statement_is c.of.result c.args.rule (c.of.ensures Client))

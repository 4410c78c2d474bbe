use Rattle.std.proofs.Common.{◌≡◌, Some, refl}
use denote.Enum.Declared.{tag_of}
use Rattle.mq_rules.specs.Rules.{lines}
use Rattle.mq_rules.specs.contracts.rule.Rule.{the_type}
use Rattle.mq_rules.specs.declared.rule.Rule.{Rule}
use Rattle.mq_rules.specs.declared.rule.Rule.TheVariants as rules
use Rattle.mq_ffi.specs.Asking.{statement_at}
use Rattle.mq_ffi.proofs.fault.number_of.Goals as goal

numbered : (rule : Rule) → statement_at (tag_of the_type rule) ≡ Some rule
unfolding lines
numbered rules.W01 = refl
numbered _ = refl

pub returns : goal.returns
returns c = numbered c.args.rule

use Rattle.std.proofs.Common.{sym, ◌∙◌}
use Rattle.mq_command.proofs.DigitLaws.{oddity_found}
use Rattle.mq_command.proofs.oddity.first_oddity.Goals as goal

pub unreachable-requires : goal.unreachable-requires
unreachable-requires c = oddity_found c.args.text.now (sym c.oddity_in.ensures ∙ c.in-None.is) c.requires

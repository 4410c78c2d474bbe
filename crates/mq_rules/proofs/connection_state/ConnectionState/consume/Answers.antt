use Rattle.std.proofs.Common.{sym, ◌∙◌}
use Rattle.mq_rules.proofs.IdleLaws.{untouched}
use Rattle.mq_rules.proofs.connection_state.ConnectionState.consume.Goals as goal

pub returns-then-is_unchanged_by : goal.returns-then-is_unchanged_by
returns-then-is_unchanged_by c = untouched c.args.role c.args.self.now c.args.note.now (sym c.is_unchanged_by.ensures ∙ c.if-is_unchanged_by.true)

use Rattle.std.proofs.Common.{sym, ◌∙◌}
use Rattle.mq_connections.proofs.AtPlaceLaws.{judges-unbroken}
use Rattle.mq_connections.proofs.conn.judge_each.Goals as goal

pub returns-else-is_any_broken-clause-ok : goal.returns-else-is_any_broken-clause-ok
returns-else-is_any_broken-clause-ok c = judges-unbroken c.args.verdicts.now c.args.place c.args.faults.now (sym c.is_any_broken.ensures ∙ c.if-is_any_broken.false)

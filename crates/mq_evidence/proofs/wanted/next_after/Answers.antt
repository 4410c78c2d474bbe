use Rattle.std.proofs.Common.{sym, ◌∙◌}
use Rattle.mq_evidence.proofs.NextLaws.{next-found, next-none, one-more}
use Rattle.mq_evidence.proofs.wanted.next_after.Goals as goal

pub returns-in-Some : goal.returns-in-Some
returns-in-Some c = next-found c.args.position c.saturating_add.result c.in-Some.next c.args.wanted.now (one-more c.args.position c.saturating_add.result _ c.saturating_add.ensures) (sym c.in-Some.is ∙ c.first_from.ensures)

pub returns-in-None : goal.returns-in-None
returns-in-None c = next-none c.args.position c.saturating_add.result _ c.args.wanted.now (one-more c.args.position c.saturating_add.result _ c.saturating_add.ensures) (sym c.in-None.is ∙ c.first_from.ensures)

use Rattle.std.proofs.Common.{subst}
use Rattle.mq_evidence.specs.Trailing.{IsNext}
use Rattle.mq_evidence.proofs.NextLaws.{next-stays}
use Rattle.mq_evidence.proofs.explaining.Explaining.explain_due.Goals as goal

pub returns-then-is_open-clause-next : goal.returns-then-is_open-clause-next
returns-then-is_open-clause-next c = λ count is next. next-stays count c.args.self.now.next c.args.self.now.wanted next

pub returns-clause-next : goal.returns-clause-next
returns-clause-next c = λ count is next. subst (IsNext c.args.self.now.wanted c.next_after-self.result) is c.next_after-self.ensures

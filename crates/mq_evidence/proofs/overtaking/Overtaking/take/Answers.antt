use Rattle.std.proofs.Common.{◌∙◌, sym}
use Rattle.mq_evidence.proofs.OvertakingLaws.{overtaking-begun}
use Rattle.mq_evidence.proofs.overtaking.Overtaking.take.Goals as goal

pub returns-then-is_open : goal.returns-then-is_open
returns-then-is_open c = λ tested fate at past comes is before. overtaking-begun _ tested.role fate at c.args.note.now past (sym c.is_open.ensures ∙ c.if-is_open.true) c.new.ensures.items

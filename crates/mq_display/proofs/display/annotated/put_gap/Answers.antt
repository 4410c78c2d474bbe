use Rattle.mq_display.proofs.OutgoingLaws.{puts_nothing}
use Rattle.mq_display.proofs.display.annotated.put_gap.Goals as goal

pub returns-else-begins : goal.returns-else-begins
returns-else-begins g c = rw c.if-begins.false (puts_nothing g.W.Write.contents c.args.out.now)

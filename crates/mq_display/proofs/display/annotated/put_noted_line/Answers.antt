use Rattle.std.proofs.Common.{refl}
use Rattle.mq_display.proofs.OutgoingLaws.{puts_two}
use Rattle.mq_display.proofs.display.annotated.put_noted_line.Goals as goal

pub returns-clause-puts : goal.returns-clause-puts
returns-clause-puts g c = puts_two g.W.Write.contents _ _ _ _ _ _ c.put_shown_line.ensures c.put_notes.ensures.puts refl

use Rattle.std.proofs.Common.{refl}
use Rattle.mq_display.proofs.OutgoingLaws.{puts_three}
use Rattle.mq_display.proofs.display.because.put_on_one.Goals as goal

pub returns-in-Some : goal.returns-in-Some
returns-in-Some g c = rw c.in-Some.is (puts_three g.W.Write.contents _ _ _ _ _ _ _ _ c.put.ensures c.put_number.ensures c.put-in-Some.ensures refl)

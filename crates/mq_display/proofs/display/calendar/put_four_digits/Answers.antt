use Rattle.std.proofs.Common.{refl}
use Rattle.mq_display.proofs.OutgoingLaws.{puts_two}
use Rattle.mq_display.proofs.display.calendar.put_four_digits.Goals as goal

pub returns : goal.returns
returns g c = puts_two g.W.Write.contents _ _ _ _ _ _ c.put_two_digits.ensures c.put_two_digits-2.ensures refl

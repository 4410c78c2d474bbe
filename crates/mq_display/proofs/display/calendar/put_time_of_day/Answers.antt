use Rattle.std.proofs.Common.{refl}
use Rattle.mq_display.proofs.OutgoingLaws.{puts_five}
use Rattle.mq_display.proofs.display.calendar.put_time_of_day.Goals as goal

pub returns : goal.returns
returns g c =
    puts_five g.W.Write.contents _ _ _ _ _ _ _ _ _ _ _ _ c.put_two_digits.ensures c.put.ensures c.put_two_digits-2.ensures c.put-2.ensures c.put_two_digits-3.ensures refl

use Rattle.std.proofs.Common.{◌++◌, codes}
use Rattle.mq_display.specs.Calendar.{four_digits, two_digits}
use Rattle.mq_display.proofs.OutgoingLaws.{puts_five}
use Rattle.mq_display.proofs.display.calendar.put_date.Goals as goal

pub returns : goal.returns
returns g c =
    puts_five g.W.Write.contents _ _ _ _ _ _ _ _ _ _ _ _ c.put_four_digits.ensures c.put.ensures c.put_two_digits.ensures c.put-2.ensures c.put_two_digits-2.ensures
    (λ i. four_digits (c.date_of-date.ensures.year i) ++ (codes "-" ++ (two_digits (c.date_of-date.ensures.month i) ++ (codes "-" ++ two_digits (c.date_of-date.ensures.day i)))))

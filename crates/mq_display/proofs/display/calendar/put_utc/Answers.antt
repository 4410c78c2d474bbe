use Rattle.std.proofs.Common.{refl}
use Rattle.mq_display.specs.Calendar.{utc_text}
use Rattle.mq_display.proofs.OutgoingLaws.{puts_two}
use Rattle.mq_display.proofs.display.calendar.put_utc.Goals as goal

pub returns : goal.returns
unfolding utc_text
returns g c =
    let with_space = puts_two g.W.Write.contents _ _ _ _ _ _ c.put_date.ensures c.put.ensures refl in
    let with_time = puts_two g.W.Write.contents _ _ _ _ _ _ with_space c.put_time_of_day.ensures refl in
    let with_point = puts_two g.W.Write.contents _ _ _ _ _ _ with_time c.put-2.ensures refl in
    let with_digits = puts_two g.W.Write.contents _ _ _ _ _ _ with_point c.put_six_digits.ensures refl in
    puts_two g.W.Write.contents _ _ _ _ _ _ with_digits c.put-3.ensures refl

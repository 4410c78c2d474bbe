use Rattle.mq_display.proofs.CalendarLaws.{IsAfterYears}
use Rattle.mq_display.proofs.display.calendar.year_of.Given as goal

abbrev pub invariant-loop-days : goal.invariant-loop-days
invariant-loop-days l = IsAfterYears l.day l.year l.days

abbrev pub decreases-loop-days : goal.decreases-loop-days
decreases-loop-days l = l.days

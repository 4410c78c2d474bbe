use Rattle.mq_display.proofs.CalendarLaws.{IsAfterMonths}
use Rattle.mq_display.proofs.display.calendar.month_of.Given as goal

abbrev pub invariant-loop-days : goal.invariant-loop-days
invariant-loop-days l = IsAfterMonths l.year l.days_of_year_before l.month l.days

abbrev pub decreases-loop-days : goal.decreases-loop-days
decreases-loop-days l = l.days

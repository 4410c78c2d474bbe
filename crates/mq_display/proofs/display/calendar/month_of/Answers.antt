use Rattle.std.proofs.Common.{sym, arith}
use Rattle.mq_display.proofs.CalendarLaws.{months_begin, months_go_on, months_end, month_bounds, month_found}
use Rattle.mq_display.proofs.display.calendar.month_of.Goals as goal

pub loop-days-init : goal.loop-days-init
loop-days-init c = months_begin c.args.year c.args.days_of_year_before

pub overflow_add-month : goal.overflow_add-month
overflow_add-month c = omega (arith, months_end c.args.year c.args.days_of_year_before c.loop-days.month c.loop-days.days c.loop-days.invariant c.requires)

pub loop-days-smaller : goal.loop-days-smaller
loop-days-smaller c =
    omega (arith, (month_bounds c.args.year c.loop-days.month).0, c.days_of_month.ensures, c.days_of_month-days.ensures, c.loop-days-test.true)

pub loop-days-preserved : goal.loop-days-preserved
loop-days-preserved c =
    months_go_on c.args.year c.args.days_of_year_before c.loop-days.month c.loop-days.days c.days_of_month-days.result c.loop-days.invariant
    c.days_of_month-days.ensures (omega (arith, c.days_of_month.ensures, c.days_of_month-days.ensures, c.loop-days-test.true))

pub returns-clause-month : goal.returns-clause-month
returns-clause-month c =
    sym (month_found c.args.year c.args.days_of_year_before c.loop-days.month c.loop-days.days c.loop-days.invariant c.requires
    (omega (arith, c.days_of_month.ensures, c.loop-days-test.false)))

pub returns-clause-days : goal.returns-clause-days
returns-clause-days c = omega (arith, c.loop-days.invariant.sum)

pub returns-clause-within : goal.returns-clause-within
returns-clause-within c =
    omega (arith, (month_bounds c.args.year c.loop-days.month).1, c.days_of_month.ensures, c.loop-days-test.false)

use Rattle.std.proofs.Common.{◌≡◌, sym, arith}
use Rattle.mq_display.specs.Calendar.{year_of}
use Rattle.mq_display.proofs.CalendarLaws.{years_begin, years_go_on, years_end, year_found, year_some}
use Rattle.mq_display.proofs.display.calendar.year_of.Goals as goal

pub loop-days-init : goal.loop-days-init
loop-days-init c = years_begin c.args.day

pub overflow_add-year : goal.overflow_add-year
overflow_add-year c = omega (arith, years_end c.args.day c.loop-days.year c.loop-days.days c.loop-days.invariant c.requires)

pub loop-days-smaller : goal.loop-days-smaller
loop-days-smaller c = omega (arith, year_some c.loop-days.year, c.days_of_year.ensures, c.days_of_year-days.ensures, c.loop-days-test.true)

pub loop-days-preserved : goal.loop-days-preserved
loop-days-preserved c =
    years_go_on c.args.day c.loop-days.year c.loop-days.days c.days_of_year-days.result c.loop-days.invariant c.days_of_year-days.ensures
    (omega (arith, c.days_of_year.ensures, c.days_of_year-days.ensures, c.loop-days-test.true))

pub returns-clause-year : goal.returns-clause-year
returns-clause-year c =
    sym (year_found c.args.day c.loop-days.year c.loop-days.days c.loop-days.invariant c.requires (omega (arith, c.days_of_year.ensures, c.loop-days-test.false)))

pub returns-clause-days : goal.returns-clause-days
returns-clause-days c =
    let found : year_of c.args.day ≡ c.loop-days.year =
    year_found c.args.day c.loop-days.year c.loop-days.days c.loop-days.invariant c.requires (omega (arith, c.days_of_year.ensures, c.loop-days-test.false)) in
    rw found (omega (arith, c.loop-days.invariant.sum))

pub returns-clause-within : goal.returns-clause-within
returns-clause-within c =
    let found : year_of c.args.day ≡ c.loop-days.year =
    year_found c.args.day c.loop-days.year c.loop-days.days c.loop-days.invariant c.requires (omega (arith, c.days_of_year.ensures, c.loop-days-test.false)) in
    rw found (omega (arith, c.days_of_year.ensures, c.loop-days-test.false))

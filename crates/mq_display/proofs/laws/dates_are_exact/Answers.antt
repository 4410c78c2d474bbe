use Rattle.mq_display.proofs.CalendarLaws.{date_found, date_alone}
use Rattle.mq_display.proofs.laws.dates_are_exact.Goals as goal

pub returns-clause-found : goal.returns-clause-found
returns-clause-found c = date_found

pub returns-clause-alone : goal.returns-clause-alone
returns-clause-alone c = date_alone

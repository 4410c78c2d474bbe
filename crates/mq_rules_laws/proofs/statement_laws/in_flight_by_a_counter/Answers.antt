use Rattle.mq_rules.specs.Moments.{note}
use Rattle.mq_rules.proofs.Exports.{S07-before, S07-counted, delivery-apart as apart, full-counted, passes-counted, used_up-counted}
use Rattle.mq_rules_laws.proofs.CounterLaws.{quota-left, quota-passes}
use Rattle.mq_rules_laws.proofs.statement_laws.in_flight_by_a_counter.Goals as goal

pub returns-clause-apart : goal.returns-clause-apart
returns-clause-apart c = λ m. apart (note m)

pub returns-clause-more : goal.returns-clause-more
returns-clause-more c = passes-counted

pub returns-clause-as_many : goal.returns-clause-as_many
returns-clause-as_many c = full-counted

pub returns-clause-after : goal.returns-clause-after
returns-clause-after c = S07-counted

pub returns-clause-before : goal.returns-clause-before
returns-clause-before c = S07-before

pub returns-clause-used_up : goal.returns-clause-used_up
returns-clause-used_up c = used_up-counted

pub returns-clause-left : goal.returns-clause-left
returns-clause-left c = quota-left

pub returns-clause-first : goal.returns-clause-first
returns-clause-first c = quota-passes

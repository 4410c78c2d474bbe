use Rattle.mq_rules.proofs.Exports.{decided-under, fated-known, fated-later, fated-on, fated-open}
use Rattle.mq_rules_laws.proofs.laws.fated_failing_turns.Goals as goal

pub returns-clause-decides : goal.returns-clause-decides
returns-clause-decides c = decided-under

pub returns-clause-goes_on : goal.returns-clause-goes_on
returns-clause-goes_on c = fated-on

pub returns-clause-opens : goal.returns-clause-opens
returns-clause-opens c = fated-open

pub returns-clause-known : goal.returns-clause-known
returns-clause-known c = fated-known

pub returns-clause-later : goal.returns-clause-later
returns-clause-later c = fated-later

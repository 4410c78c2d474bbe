use Rattle.mq_rules.proofs.Exports.{listed-ascends, listed-there}
use Rattle.mq_rules_laws.proofs.laws.listed_is_failing.Goals as goal

pub returns-clause-ordered : goal.returns-clause-ordered
returns-clause-ordered c = listed-ascends

pub returns-clause-each : goal.returns-clause-each
returns-clause-each c = listed-there

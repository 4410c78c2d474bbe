use Rattle.mq_rules.proofs.Exports.{decided-within}
use Rattle.mq_rules_laws.proofs.DecidedLaws.{decided-reached}
use Rattle.mq_rules_laws.proofs.laws.decided_is_shortest.Goals as goal

pub returns-clause-within : goal.returns-clause-within
returns-clause-within c = decided-within

pub returns-clause-reached : goal.returns-clause-reached
returns-clause-reached c = decided-reached

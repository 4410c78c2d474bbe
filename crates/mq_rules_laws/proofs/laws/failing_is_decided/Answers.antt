use Rattle.mq_rules.proofs.Exports.{decided-fails}
use Rattle.mq_rules_laws.proofs.DecidedLaws.{fault_in-fails}
use Rattle.mq_rules_laws.proofs.laws.failing_is_decided.Goals as goal

pub returns-clause-decided : goal.returns-clause-decided
returns-clause-decided c = decided-fails

pub returns-clause-fault : goal.returns-clause-fault
returns-clause-fault c = fault_in-fails

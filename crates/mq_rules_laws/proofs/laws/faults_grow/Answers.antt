use Rattle.mq_rules.proofs.Exports.{fault_in-start, fault_in-step}
use Rattle.mq_rules_laws.proofs.laws.faults_grow.Goals as goal

pub returns-clause-start : goal.returns-clause-start
returns-clause-start c = fault_in-start

pub returns-clause-step : goal.returns-clause-step
returns-clause-step c = fault_in-step

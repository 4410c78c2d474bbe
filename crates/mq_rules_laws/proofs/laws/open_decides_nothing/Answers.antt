use Rattle.mq_rules.proofs.Exports.{open-decides}
use Rattle.mq_rules_laws.proofs.FoldLaws.{open-idle}
use Rattle.mq_rules_laws.proofs.laws.open_decides_nothing.Goals as goal

pub returns-clause-decides : goal.returns-clause-decides
returns-clause-decides c = open-decides

pub returns-clause-needs : goal.returns-clause-needs
returns-clause-needs c = open-idle

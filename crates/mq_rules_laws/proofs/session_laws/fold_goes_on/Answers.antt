use Rattle.mq_rules.proofs.Exports.{under-next}
use Rattle.mq_rules_laws.proofs.FoldLaws.{folded-next}
use Rattle.mq_rules_laws.proofs.session_laws.fold_goes_on.Goals as goal

pub returns-clause-under : goal.returns-clause-under
returns-clause-under c at_start = under-next

pub returns-clause-in_order : goal.returns-clause-in_order
returns-clause-in_order c at_start = folded-next

use Rattle.mq_rules.proofs.Exports.{fails-kept}
use Rattle.mq_rules_laws.proofs.laws.failing_stays.Goals as goal

pub returns : goal.returns
returns c = fails-kept

use Rattle.mq_rules.proofs.Exports.{fails-step}
use Rattle.mq_rules_laws.proofs.laws.failing_turns.Goals as goal

pub returns : goal.returns
returns c = fails-step

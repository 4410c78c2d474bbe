use Rattle.mq_rules.proofs.Exports.{applies-step}
use Rattle.mq_rules_laws.proofs.occasion_laws.applying_turns.Goals as goal

pub returns : goal.returns
returns c = applies-step

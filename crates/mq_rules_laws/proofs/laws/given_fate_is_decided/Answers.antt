use Rattle.mq_rules.proofs.Exports.{given-gives}
use Rattle.mq_rules_laws.proofs.laws.given_fate_is_decided.Goals as goal

pub returns : goal.returns
returns c = given-gives

use Rattle.mq_rules.proofs.Exports.{latest_fate-next}
use Rattle.mq_rules_laws.proofs.laws.latest_fate_goes_on.Goals as goal

pub returns : goal.returns
returns c = latest_fate-next

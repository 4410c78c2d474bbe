use Rattle.mq_rules.proofs.Exports.{session_since-next}
use Rattle.mq_rules_laws.proofs.session_laws.since_goes_on.Goals as goal

pub returns : goal.returns
returns c = session_since-next

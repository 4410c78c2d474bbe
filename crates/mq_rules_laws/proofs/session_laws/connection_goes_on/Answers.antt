use Rattle.mq_rules.proofs.Exports.{connection-next}
use Rattle.mq_rules_laws.proofs.session_laws.connection_goes_on.Goals as goal

pub returns : goal.returns
returns c = connection-next

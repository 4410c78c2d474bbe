use Rattle.mq_rules_laws.proofs.AliveLaws.{alive-is, is-alive}
use Rattle.mq_rules_laws.proofs.session_laws.alive_by_connections.Goals as goal

pub returns : goal.returns
returns c = λ role n log. (alive-is role n log, is-alive role n log)

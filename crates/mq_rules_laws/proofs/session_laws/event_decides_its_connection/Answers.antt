use Rattle.mq_rules.proofs.Exports.{fate-next, latest_fate-next}
use Rattle.mq_rules_laws.proofs.session_laws.event_decides_its_connection.Goals as goal

pub returns-clause-any : goal.returns-clause-any
returns-clause-any c = fate-next

pub returns-clause-latest : goal.returns-clause-latest
returns-clause-latest c = latest_fate-next

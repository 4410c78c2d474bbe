use Rattle.mq_rules.proofs.Exports.{in_order-releases, in_order-turns}
use Rattle.mq_rules_laws.proofs.laws.sessions_are_judged_at_once.Goals as goal

pub returns-clause-session : goal.returns-clause-session
returns-clause-session c = in_order-turns

pub returns-clause-release : goal.returns-clause-release
returns-clause-release c = in_order-releases

use Rattle.mq_rules.proofs.Exports.{late-turns, release-turns}
use Rattle.mq_rules_laws.proofs.laws.late_is_judged_at_once.Goals as goal

pub returns-clause-session : goal.returns-clause-session
returns-clause-session c = late-turns

pub returns-clause-release : goal.returns-clause-release
returns-clause-release c = release-turns

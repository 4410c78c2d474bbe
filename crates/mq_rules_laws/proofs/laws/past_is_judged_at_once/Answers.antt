use Rattle.mq_rules_laws.proofs.LateLaws.{bytes-turns, past-turns}
use Rattle.mq_rules_laws.proofs.laws.past_is_judged_at_once.Goals as goal

pub returns-clause-bytes : goal.returns-clause-bytes
returns-clause-bytes c = bytes-turns

pub returns-clause-past : goal.returns-clause-past
returns-clause-past c = past-turns

use Rattle.mq_rules_laws.proofs.FateLaws.{fate-stays, fate-followed}
use Rattle.mq_rules_laws.proofs.session_laws.fate_stays.Goals as goal

pub returns-clause-decided : goal.returns-clause-decided
returns-clause-decided c = fate-stays

pub returns-clause-followed : goal.returns-clause-followed
returns-clause-followed c = fate-followed

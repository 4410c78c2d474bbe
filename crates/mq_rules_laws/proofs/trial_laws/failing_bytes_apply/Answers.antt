use Rattle.mq_rules_laws.proofs.TrialLaws.{fails-tried}
use Rattle.mq_rules_laws.proofs.trial_laws.failing_bytes_apply.Goals as goal

pub returns : goal.returns
returns c = fails-tried

use Rattle.mq_rules_laws.proofs.OccasionLaws.{fails-applies}
use Rattle.mq_rules_laws.proofs.occasion_laws.failing_applies.Goals as goal

pub returns : goal.returns
returns c = fails-applies

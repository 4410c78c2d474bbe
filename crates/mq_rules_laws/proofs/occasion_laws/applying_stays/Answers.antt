use Rattle.mq_rules_laws.proofs.PlacesLaws.{applies-kept}
use Rattle.mq_rules_laws.proofs.occasion_laws.applying_stays.Goals as goal

pub returns : goal.returns
returns c = applies-kept

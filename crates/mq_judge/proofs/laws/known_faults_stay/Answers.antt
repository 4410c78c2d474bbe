use Rattle.mq_judge.proofs.StayLaws.{known-stays}
use Rattle.mq_judge.proofs.laws.known_faults_stay.Goals as goal

pub returns : goal.returns
returns c = known-stays

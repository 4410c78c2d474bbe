use Rattle.mq_props.proofs.Lists.{list_breaks}
use Rattle.mq_props.proofs.Broken.{breaks_list}
use Rattle.mq_props.proofs.laws.property_faults_are_exact.Goals as goal

pub returns : goal.returns
returns c = record { breaks = λ place left fault fits. (list_breaks place left fault fits, breaks_list place left fault fits) }

use Rattle.mq_props.proofs.Exact.{properties_only, properties_all}
use Rattle.mq_props.proofs.laws.properties_are_exact.Goals as goal

pub returns : goal.returns
returns c = record { only = properties_only; all = properties_all }

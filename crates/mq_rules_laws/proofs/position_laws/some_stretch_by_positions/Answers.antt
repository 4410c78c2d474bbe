use Rattle.mq_rules_laws.proofs.PositionLaws.{some-stretch, stretch-some}
use Rattle.mq_rules_laws.proofs.position_laws.some_stretch_by_positions.Goals as goal

pub returns : goal.returns
returns c = λ test ms. (some-stretch test ms, λ h. stretch-some test ms h.0 h.1 h.2)

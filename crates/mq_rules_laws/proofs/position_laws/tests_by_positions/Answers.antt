use Rattle.mq_rules.proofs.Exports.{among-some, some-among, those-among}
use Rattle.mq_rules_laws.proofs.PositionLaws.{among-those, count-those}
use Rattle.mq_rules_laws.proofs.position_laws.tests_by_positions.Goals as goal

pub returns-clause-some : goal.returns-clause-some
returns-clause-some c = λ test ms. (some-among test ms, λ h. among-some test ms h.0 h.1 h.2)

pub returns-clause-those : goal.returns-clause-those
returns-clause-those c = λ test ms m. (those-among test ms m, λ h. among-those test ms m h.0 h.1)

pub returns-clause-count : goal.returns-clause-count
returns-clause-count c = count-those

use Rattle.mq_rules.proofs.Exports.{latest-is}
use Rattle.mq_rules_laws.proofs.PositionLaws.{is-latest, latest-none, none-latest}
use Rattle.mq_rules_laws.proofs.position_laws.latest_by_positions.Goals as goal

pub returns-clause-there : goal.returns-clause-there
returns-clause-there c = λ test ms at d. (latest-is test ms at d, is-latest test ms at d)

pub returns-clause-none : goal.returns-clause-none
returns-clause-none c = λ test ms. (latest-none test ms, none-latest test ms)

use Rattle.mq_rules.proofs.Exports.{earliest_since-is, earliest_since-there}
use Rattle.mq_rules_laws.proofs.PositionLaws.{is-earliest_since}
use Rattle.mq_rules_laws.proofs.position_laws.earliest_since_by_positions.Goals as goal

pub returns-clause-at : goal.returns-clause-at
returns-clause-at c = λ starts ends ms at d. (earliest_since-is starts ends ms at d, is-earliest_since starts ends ms at d)

pub returns-clause-there : goal.returns-clause-there
returns-clause-there c = earliest_since-there

use Rattle.mq_rules.proofs.Exports.{none-first_found}
use Rattle.mq_rules_laws.proofs.PositionLaws.{first_found-is, is-first_found, first_found-none}
use Rattle.mq_rules_laws.proofs.position_laws.first_found_by_positions.Goals as goal

pub returns-clause-there : goal.returns-clause-there
returns-clause-there c at_start = λ found ms a d. (first_found-is found ms a d, is-first_found found ms a d)

pub returns-clause-none : goal.returns-clause-none
returns-clause-none c at_start = λ found ms. (first_found-none found ms, none-first_found found ms)

use Rattle.mq_rules.proofs.Exports.{since-stands, stands-since}
use Rattle.mq_rules_laws.proofs.position_laws.since_by_positions.Goals as goal

pub returns : goal.returns
returns c = λ starts ends ms d. (since-stands starts ends ms d, stands-since starts ends ms d)

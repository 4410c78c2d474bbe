use Rattle.mq_rules.proofs.Exports.{in_order-late, rest-late}
use Rattle.mq_rules_laws.proofs.laws.session_packets_are_late.Goals as goal

pub returns-clause-ordered : goal.returns-clause-ordered
returns-clause-ordered c = in_order-late

pub returns-clause-rests : goal.returns-clause-rests
returns-clause-rests c = rest-late

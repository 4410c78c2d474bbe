use Rattle.mq_rules.proofs.Exports.{moments-descend, session-descend, those-descend}
use Rattle.std.specs.Prelude.{◌==◌}
use Rattle.mq_rules.specs.Moments.{moments}
use Rattle.mq_rules.specs.Connections.{begun, number}
use Rattle.mq_rules_laws.proofs.position_laws.scopes_descend.Goals as goal

pub returns-clause-all : goal.returns-clause-all
returns-clause-all c = moments-descend

pub returns-clause-those : goal.returns-clause-those
returns-clause-those c = those-descend

pub returns-clause-of_connection : goal.returns-clause-of_connection
returns-clause-of_connection c = λ n log. those-descend (λ m. number m == n) (moments log) (moments-descend log)

pub returns-clause-connection : goal.returns-clause-connection
returns-clause-connection c = λ log. those-descend (λ m. number m == begun log) (moments log) (moments-descend log)

pub returns-clause-session : goal.returns-clause-session
returns-clause-session c = session-descend

use Rattle.mq_rules.proofs.Exports.{on_connections, orderly, turned}
use Rattle.mq_rules_laws.proofs.session_laws.unrefused_logs_are_orderly.Goals as goal

pub returns-clause-placed : goal.returns-clause-placed
returns-clause-placed c = λ limit bytes unrefused. (orderly limit bytes unrefused).placed

pub returns-clause-few : goal.returns-clause-few
returns-clause-few c = λ limit further bytes unrefused. (orderly limit bytes unrefused).few

pub returns-clause-in_turn : goal.returns-clause-in_turn
returns-clause-in_turn c = λ limit further bytes unrefused. turned limit bytes unrefused

pub returns-clause-on_connections : goal.returns-clause-on_connections
returns-clause-on_connections c = on_connections

use Rattle.std.proofs.Common.{refl}
use Rattle.mq_rules.specs.Rules.{found_line, lines, line_of}
use Rattle.mq_rules.specs.Statements.{fails}
use Rattle.mq_rules.specs.Connections.{is_binding, gives_fate}
use Rattle.mq_rules.specs.Exchanges.{breaks_A, breaks_O, shows_R}
use Rattle.mq_rules_tests.proofs.worked.pubacks.Goals as goal

pub returns-clause-client_answer_breaks : goal.returns-clause-client_answer_breaks
unfolding gives_fate fails found_line lines line_of breaks_A
returns-clause-client_answer_breaks c = refl

pub returns-clause-client_answer_keeps : goal.returns-clause-client_answer_keeps
unfolding gives_fate fails found_line lines line_of breaks_A
returns-clause-client_answer_keeps c = refl

pub returns-clause-client_owes : goal.returns-clause-client_owes
unfolding gives_fate fails found_line lines line_of shows_R is_binding
returns-clause-client_owes c = refl

pub returns-clause-client_paid : goal.returns-clause-client_paid
unfolding gives_fate fails found_line lines line_of shows_R is_binding
returns-clause-client_paid c = refl

pub returns-clause-server_answer_breaks : goal.returns-clause-server_answer_breaks
unfolding gives_fate fails found_line lines line_of breaks_A
returns-clause-server_answer_breaks c = refl

pub returns-clause-server_answer_keeps : goal.returns-clause-server_answer_keeps
unfolding gives_fate fails found_line lines line_of breaks_A
returns-clause-server_answer_keeps c = refl

pub returns-clause-server_owes : goal.returns-clause-server_owes
unfolding gives_fate fails found_line lines line_of shows_R is_binding
returns-clause-server_owes c = refl

pub returns-clause-server_paid : goal.returns-clause-server_paid
unfolding gives_fate fails found_line lines line_of shows_R is_binding
returns-clause-server_paid c = refl

pub returns-clause-order_breaks : goal.returns-clause-order_breaks
unfolding gives_fate fails found_line lines line_of breaks_O
returns-clause-order_breaks c = refl

pub returns-clause-order_keeps : goal.returns-clause-order_keeps
unfolding gives_fate fails found_line lines line_of breaks_O
returns-clause-order_keeps c = refl

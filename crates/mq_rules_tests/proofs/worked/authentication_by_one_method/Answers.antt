use Rattle.std.proofs.Common.{refl}
use Rattle.mq_rules.specs.Rules.{found_line, lines, line_of}
use Rattle.mq_rules.specs.Statements.{fails}
use Rattle.mq_rules.specs.FurtherPasts.{breaks_A03}
use Rattle.mq_rules_tests.proofs.worked.authentication_by_one_method.Goals as goal
use Rattle.mq_rules.specs.Connections.{gives_fate}

pub returns-clause-client_breaks : goal.returns-clause-client_breaks
unfolding gives_fate fails found_line lines line_of breaks_A03
returns-clause-client_breaks c = refl

pub returns-clause-client_breaks_without : goal.returns-clause-client_breaks_without
unfolding gives_fate fails found_line lines line_of breaks_A03
returns-clause-client_breaks_without c = refl

pub returns-clause-client_keeps : goal.returns-clause-client_keeps
unfolding gives_fate fails found_line lines line_of breaks_A03
returns-clause-client_keeps c = refl

pub returns-clause-header_alone_keeps : goal.returns-clause-header_alone_keeps
unfolding gives_fate fails found_line lines line_of breaks_A03
returns-clause-header_alone_keeps c = refl

pub returns-clause-before_keeps : goal.returns-clause-before_keeps
unfolding gives_fate fails found_line lines line_of breaks_A03
returns-clause-before_keeps c = refl

pub returns-clause-earlier_keeps : goal.returns-clause-earlier_keeps
unfolding gives_fate fails found_line lines line_of breaks_A03
returns-clause-earlier_keeps c = refl

pub returns-clause-without_method_keeps : goal.returns-clause-without_method_keeps
unfolding gives_fate fails found_line lines line_of breaks_A03
returns-clause-without_method_keeps c = refl

pub returns-clause-received_keeps : goal.returns-clause-received_keeps
unfolding gives_fate fails found_line lines line_of breaks_A03
returns-clause-received_keeps c = refl

pub returns-clause-server_breaks : goal.returns-clause-server_breaks
unfolding gives_fate fails found_line lines line_of breaks_A03
returns-clause-server_breaks c = refl

pub returns-clause-server_breaks_without : goal.returns-clause-server_breaks_without
unfolding gives_fate fails found_line lines line_of breaks_A03
returns-clause-server_breaks_without c = refl

pub returns-clause-server_breaks_auth : goal.returns-clause-server_breaks_auth
unfolding gives_fate fails found_line lines line_of breaks_A03
returns-clause-server_breaks_auth c = refl

pub returns-clause-server_keeps : goal.returns-clause-server_keeps
unfolding gives_fate fails found_line lines line_of breaks_A03
returns-clause-server_keeps c = refl

pub returns-clause-refusing_keeps : goal.returns-clause-refusing_keeps
unfolding gives_fate fails found_line lines line_of breaks_A03
returns-clause-refusing_keeps c = refl

pub returns-clause-first_breaks : goal.returns-clause-first_breaks
unfolding gives_fate fails found_line lines line_of breaks_A03
returns-clause-first_breaks c = refl

pub returns-clause-first_keeps : goal.returns-clause-first_keeps
unfolding gives_fate fails found_line lines line_of breaks_A03
returns-clause-first_keeps c = refl

pub returns-clause-unasked_keeps : goal.returns-clause-unasked_keeps
unfolding gives_fate fails found_line lines line_of breaks_A03
returns-clause-unasked_keeps c = refl

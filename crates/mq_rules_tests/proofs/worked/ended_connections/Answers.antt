use Rattle.std.proofs.Common.{refl}
use Rattle.mq_rules.specs.Rules.{found_line, lines, line_of}
use Rattle.mq_rules.specs.Statements.{fails}
use Rattle.mq_rules.specs.Pasts.{breaks_C11, breaks_C12, breaks_C23}
use Rattle.mq_rules_tests.proofs.worked.ended_connections.Goals as goal
use Rattle.mq_rules.specs.Connections.{gives_fate}

pub returns-clause-client_breaks : goal.returns-clause-client_breaks
unfolding gives_fate fails found_line lines line_of breaks_C11
returns-clause-client_breaks c = refl

pub returns-clause-client_keeps : goal.returns-clause-client_keeps
unfolding gives_fate fails found_line lines line_of breaks_C11
returns-clause-client_keeps c = refl

pub returns-clause-client_keeps_received : goal.returns-clause-client_keeps_received
unfolding gives_fate fails found_line lines line_of breaks_C11
returns-clause-client_keeps_received c = refl

pub returns-clause-server_breaks : goal.returns-clause-server_breaks
unfolding gives_fate fails found_line lines line_of breaks_C11
returns-clause-server_breaks c = refl

pub returns-clause-server_keeps : goal.returns-clause-server_keeps
unfolding gives_fate fails found_line lines line_of breaks_C11
returns-clause-server_keeps c = refl

pub returns-clause-refused_breaks : goal.returns-clause-refused_breaks
unfolding gives_fate fails found_line lines line_of breaks_C12
returns-clause-refused_breaks c = refl

pub returns-clause-refused_keeps : goal.returns-clause-refused_keeps
unfolding gives_fate fails found_line lines line_of breaks_C12
returns-clause-refused_keeps c = refl

pub returns-clause-client_rests : goal.returns-clause-client_rests
unfolding gives_fate fails found_line lines line_of breaks_C23
returns-clause-client_rests c = refl

pub returns-clause-client_rests_before : goal.returns-clause-client_rests_before
unfolding gives_fate fails found_line lines line_of breaks_C23
returns-clause-client_rests_before c = refl

pub returns-clause-server_rests : goal.returns-clause-server_rests
unfolding gives_fate fails found_line lines line_of breaks_C23
returns-clause-server_rests c = refl

pub returns-clause-server_rests_before : goal.returns-clause-server_rests_before
unfolding gives_fate fails found_line lines line_of breaks_C23
returns-clause-server_rests_before c = refl

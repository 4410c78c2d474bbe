use Rattle.std.proofs.Common.{refl}
use Rattle.mq_rules.specs.Rules.{found_line, lines, line_of}
use Rattle.mq_rules.specs.Statements.{fails}
use Rattle.mq_rules.specs.Identifiers.{breaks_S01}
use Rattle.mq_rules_tests.proofs.worked.identifiers_in_use.Goals as goal
use Rattle.mq_rules.specs.Connections.{gives_fate}

pub returns-clause-client_breaks : goal.returns-clause-client_breaks
unfolding gives_fate fails found_line lines line_of breaks_S01
returns-clause-client_breaks c = refl

pub returns-clause-client_keeps : goal.returns-clause-client_keeps
unfolding gives_fate fails found_line lines line_of breaks_S01
returns-clause-client_keeps c = refl

pub returns-clause-client_breaks_pubrec : goal.returns-clause-client_breaks_pubrec
unfolding gives_fate fails found_line lines line_of breaks_S01
returns-clause-client_breaks_pubrec c = refl

pub returns-clause-client_keeps_refused : goal.returns-clause-client_keeps_refused
unfolding gives_fate fails found_line lines line_of breaks_S01
returns-clause-client_keeps_refused c = refl

pub returns-clause-client_breaks_resumed : goal.returns-clause-client_breaks_resumed
unfolding gives_fate fails found_line lines line_of breaks_S01
returns-clause-client_breaks_resumed c = refl

pub returns-clause-client_keeps_anew : goal.returns-clause-client_keeps_anew
unfolding gives_fate fails found_line lines line_of breaks_S01
returns-clause-client_keeps_anew c = refl

pub returns-clause-client_subscribes_breaks : goal.returns-clause-client_subscribes_breaks
unfolding gives_fate fails found_line lines line_of breaks_S01
returns-clause-client_subscribes_breaks c = refl

pub returns-clause-client_subscribes_keeps : goal.returns-clause-client_subscribes_keeps
unfolding gives_fate fails found_line lines line_of breaks_S01
returns-clause-client_subscribes_keeps c = refl

pub returns-clause-client_breaks_void_closer : goal.returns-clause-client_breaks_void_closer
unfolding gives_fate fails found_line lines line_of breaks_S01
returns-clause-client_breaks_void_closer c = refl

pub returns-clause-server_breaks : goal.returns-clause-server_breaks
unfolding gives_fate fails found_line lines line_of breaks_S01
returns-clause-server_breaks c = refl

pub returns-clause-server_keeps : goal.returns-clause-server_keeps
unfolding gives_fate fails found_line lines line_of breaks_S01
returns-clause-server_keeps c = refl

pub returns-clause-client_keeps_passed_over : goal.returns-clause-client_keeps_passed_over
unfolding gives_fate fails found_line lines line_of breaks_S01
returns-clause-client_keeps_passed_over c = refl

pub returns-clause-client_breaks_sent_again : goal.returns-clause-client_breaks_sent_again
unfolding gives_fate fails found_line lines line_of breaks_S01
returns-clause-client_breaks_sent_again c = refl

pub returns-clause-client_breaks_early : goal.returns-clause-client_breaks_early
unfolding gives_fate fails found_line lines line_of breaks_S01
returns-clause-client_breaks_early c = refl

pub returns-clause-client_breaks_confirmed : goal.returns-clause-client_breaks_confirmed
unfolding gives_fate fails found_line lines line_of breaks_S01
returns-clause-client_breaks_confirmed c = refl

pub returns-clause-server_keeps_passed_over : goal.returns-clause-server_keeps_passed_over
unfolding gives_fate fails found_line lines line_of breaks_S01
returns-clause-server_keeps_passed_over c = refl

pub returns-clause-server_breaks_unbounded : goal.returns-clause-server_breaks_unbounded
unfolding gives_fate fails found_line lines line_of breaks_S01
returns-clause-server_breaks_unbounded c = refl

use Rattle.std.proofs.Common.{refl}
use Rattle.mq_rules.specs.Rules.{found_line, lines, line_of}
use Rattle.mq_rules.specs.Statements.{fails}
use Rattle.mq_rules.specs.Pasts.{breaks_C14, breaks_C15, breaks_C17}
use Rattle.mq_rules_tests.proofs.worked.peer_limits.Goals as goal
use Rattle.mq_rules.specs.Connections.{gives_fate}

pub returns-clause-client_size_breaks : goal.returns-clause-client_size_breaks
unfolding gives_fate fails found_line lines line_of breaks_C14
returns-clause-client_size_breaks c = refl

pub returns-clause-client_size_keeps : goal.returns-clause-client_size_keeps
unfolding gives_fate fails found_line lines line_of breaks_C14
returns-clause-client_size_keeps c = refl

pub returns-clause-server_size_breaks : goal.returns-clause-server_size_breaks
unfolding gives_fate fails found_line lines line_of breaks_C14
returns-clause-server_size_breaks c = refl

pub returns-clause-server_size_keeps : goal.returns-clause-server_size_keeps
unfolding gives_fate fails found_line lines line_of breaks_C14
returns-clause-server_size_keeps c = refl

pub returns-clause-client_alias_breaks : goal.returns-clause-client_alias_breaks
unfolding gives_fate fails found_line lines line_of breaks_C15
returns-clause-client_alias_breaks c = refl

pub returns-clause-client_alias_keeps : goal.returns-clause-client_alias_keeps
unfolding gives_fate fails found_line lines line_of breaks_C15
returns-clause-client_alias_keeps c = refl

pub returns-clause-server_alias_breaks : goal.returns-clause-server_alias_breaks
unfolding gives_fate fails found_line lines line_of breaks_C15
returns-clause-server_alias_breaks c = refl

pub returns-clause-server_alias_keeps : goal.returns-clause-server_alias_keeps
unfolding gives_fate fails found_line lines line_of breaks_C15
returns-clause-server_alias_keeps c = refl

pub returns-clause-qos_breaks : goal.returns-clause-qos_breaks
unfolding gives_fate fails found_line lines line_of breaks_C17
returns-clause-qos_breaks c = refl

pub returns-clause-qos_keeps : goal.returns-clause-qos_keeps
unfolding gives_fate fails found_line lines line_of breaks_C17
returns-clause-qos_keeps c = refl

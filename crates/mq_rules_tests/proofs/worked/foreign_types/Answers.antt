use Rattle.std.proofs.Common.{refl}
use Rattle.mq_rules.specs.Rules.{found_line, lines, line_of}
use Rattle.mq_rules.specs.Statements.{fails}
use Rattle.mq_rules.specs.Pasts.{breaks_C01}
use Rattle.mq_rules_tests.proofs.worked.foreign_types.Goals as goal
use Rattle.mq_rules.specs.Connections.{gives_fate}

pub returns-clause-client_breaks : goal.returns-clause-client_breaks
unfolding gives_fate fails found_line lines line_of breaks_C01
returns-clause-client_breaks c = refl

pub returns-clause-client_keeps : goal.returns-clause-client_keeps
unfolding gives_fate fails found_line lines line_of breaks_C01
returns-clause-client_keeps c = refl

pub returns-clause-client_breaks_by_bytes : goal.returns-clause-client_breaks_by_bytes
unfolding gives_fate fails found_line lines line_of breaks_C01
returns-clause-client_breaks_by_bytes c = refl

pub returns-clause-server_breaks : goal.returns-clause-server_breaks
unfolding gives_fate fails found_line lines line_of breaks_C01
returns-clause-server_breaks c = refl

pub returns-clause-server_keeps : goal.returns-clause-server_keeps
unfolding gives_fate fails found_line lines line_of breaks_C01
returns-clause-server_keeps c = refl

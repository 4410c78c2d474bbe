use Rattle.std.proofs.Common.{refl}
use Rattle.mq_rules.specs.Rules.{found_line, lines, line_of}
use Rattle.mq_rules.specs.Statements.{fails}
use Rattle.mq_rules.specs.Pasts.{breaks_C16}
use Rattle.mq_rules_tests.proofs.worked.aliases.Goals as goal
use Rattle.mq_rules.specs.Connections.{gives_fate}

pub returns-clause-client_breaks : goal.returns-clause-client_breaks
unfolding gives_fate fails found_line lines line_of breaks_C16
returns-clause-client_breaks c = refl

pub returns-clause-client_keeps : goal.returns-clause-client_keeps
unfolding gives_fate fails found_line lines line_of breaks_C16
returns-clause-client_keeps c = refl

pub returns-clause-client_breaks_anew : goal.returns-clause-client_breaks_anew
unfolding gives_fate fails found_line lines line_of breaks_C16
returns-clause-client_breaks_anew c = refl

pub returns-clause-server_breaks : goal.returns-clause-server_breaks
unfolding gives_fate fails found_line lines line_of breaks_C16
returns-clause-server_breaks c = refl

pub returns-clause-server_keeps : goal.returns-clause-server_keeps
unfolding gives_fate fails found_line lines line_of breaks_C16
returns-clause-server_keeps c = refl

use Rattle.std.proofs.Common.{refl}
use Rattle.mq_rules.specs.Rules.{found_line, lines, line_of}
use Rattle.mq_rules.specs.Statements.{fails}
use Rattle.mq_rules.specs.Identifiers.{breaks_S07}
use Rattle.mq_rules_tests.proofs.worked.quotas.Goals as goal
use Rattle.mq_rules.specs.Connections.{gives_fate}

pub returns-clause-breaks : goal.returns-clause-breaks
unfolding gives_fate fails found_line lines line_of breaks_S07
returns-clause-breaks c = refl

pub returns-clause-keeps : goal.returns-clause-keeps
unfolding gives_fate fails found_line lines line_of breaks_S07
returns-clause-keeps c = refl

pub returns-clause-cap_breaks : goal.returns-clause-cap_breaks
unfolding gives_fate fails found_line lines line_of breaks_S07
returns-clause-cap_breaks c = refl

pub returns-clause-server_breaks : goal.returns-clause-server_breaks
unfolding gives_fate fails found_line lines line_of breaks_S07
returns-clause-server_breaks c = refl

pub returns-clause-server_keeps : goal.returns-clause-server_keeps
unfolding gives_fate fails found_line lines line_of breaks_S07
returns-clause-server_keeps c = refl

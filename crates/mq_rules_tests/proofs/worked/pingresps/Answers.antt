use Rattle.std.proofs.Common.{refl}
use Rattle.mq_rules.specs.Rules.{found_line, lines, line_of}
use Rattle.mq_rules.specs.Statements.{fails}
use Rattle.mq_rules.specs.Connections.{is_binding, gives_fate}
use Rattle.mq_rules.specs.Exchanges.{breaks_E7R}
use Rattle.mq_rules_tests.proofs.worked.pingresps.Goals as goal

pub returns-clause-breaks : goal.returns-clause-breaks
unfolding gives_fate fails found_line lines line_of breaks_E7R is_binding
returns-clause-breaks c = refl

pub returns-clause-keeps : goal.returns-clause-keeps
unfolding gives_fate fails found_line lines line_of breaks_E7R is_binding
returns-clause-keeps c = refl

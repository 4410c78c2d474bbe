use Rattle.std.proofs.Common.{refl}
use Rattle.mq_rules.specs.Rules.{found_line, lines, line_of}
use Rattle.mq_rules.specs.Statements.{fails}
use Rattle.mq_rules.specs.Pasts.{breaks_C02, breaks_C03}
use Rattle.mq_rules_tests.proofs.worked.connects.Goals as goal
use Rattle.mq_rules.specs.Connections.{gives_fate}

pub returns-clause-first_breaks : goal.returns-clause-first_breaks
unfolding gives_fate fails found_line lines line_of breaks_C02
returns-clause-first_breaks c = refl

pub returns-clause-first_keeps : goal.returns-clause-first_keeps
unfolding gives_fate fails found_line lines line_of breaks_C02
returns-clause-first_keeps c = refl

pub returns-clause-first_keeps_by_bytes : goal.returns-clause-first_keeps_by_bytes
unfolding gives_fate fails found_line lines line_of breaks_C02
returns-clause-first_keeps_by_bytes c = refl

pub returns-clause-second_breaks : goal.returns-clause-second_breaks
unfolding gives_fate fails found_line lines line_of breaks_C03
returns-clause-second_breaks c = refl

pub returns-clause-second_keeps : goal.returns-clause-second_keeps
unfolding gives_fate fails found_line lines line_of breaks_C03
returns-clause-second_keeps c = refl

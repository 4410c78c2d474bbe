use Rattle.std.proofs.Common.{refl}
use Rattle.mq_rules.specs.Rules.{found_line, lines, line_of}
use Rattle.mq_rules.specs.Statements.{fails}
use Rattle.mq_rules.specs.Pasts.{breaks_C04, breaks_C05, breaks_C06}
use Rattle.mq_rules_tests.proofs.worked.connacks.Goals as goal
use Rattle.mq_rules.specs.Connections.{gives_fate}

pub returns-clause-early_breaks : goal.returns-clause-early_breaks
unfolding gives_fate fails found_line lines line_of breaks_C04
returns-clause-early_breaks c = refl

pub returns-clause-early_keeps : goal.returns-clause-early_keeps
unfolding gives_fate fails found_line lines line_of breaks_C04
returns-clause-early_keeps c = refl

pub returns-clause-first_breaks : goal.returns-clause-first_breaks
unfolding gives_fate fails found_line lines line_of breaks_C05
returns-clause-first_breaks c = refl

pub returns-clause-first_keeps : goal.returns-clause-first_keeps
unfolding gives_fate fails found_line lines line_of breaks_C05
returns-clause-first_keeps c = refl

pub returns-clause-second_breaks : goal.returns-clause-second_breaks
unfolding gives_fate fails found_line lines line_of breaks_C06
returns-clause-second_breaks c = refl

pub returns-clause-second_keeps : goal.returns-clause-second_keeps
unfolding gives_fate fails found_line lines line_of breaks_C06
returns-clause-second_keeps c = refl

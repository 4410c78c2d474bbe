use Rattle.std.proofs.Common.{refl}
use Rattle.mq_rules.specs.Rules.{found_line, lines, line_of}
use Rattle.mq_rules.specs.Statements.{fails}
use Rattle.mq_rules.specs.Pasts.{breaks_C10, breaks_C21, breaks_C22}
use Rattle.mq_rules_tests.proofs.worked.answers_to_connect.Goals as goal
use Rattle.mq_rules.specs.Connections.{gives_fate}

pub returns-clause-unnamed_breaks : goal.returns-clause-unnamed_breaks
unfolding gives_fate fails found_line lines line_of breaks_C10
returns-clause-unnamed_breaks c = refl

pub returns-clause-unnamed_keeps : goal.returns-clause-unnamed_keeps
unfolding gives_fate fails found_line lines line_of breaks_C10
returns-clause-unnamed_keeps c = refl

pub returns-clause-explained_breaks : goal.returns-clause-explained_breaks
unfolding gives_fate fails found_line lines line_of breaks_C21
returns-clause-explained_breaks c = refl

pub returns-clause-explained_keeps : goal.returns-clause-explained_keeps
unfolding gives_fate fails found_line lines line_of breaks_C21
returns-clause-explained_keeps c = refl

pub returns-clause-explained_keeps_disconnect : goal.returns-clause-explained_keeps_disconnect
unfolding gives_fate fails found_line lines line_of breaks_C21
returns-clause-explained_keeps_disconnect c = refl

pub returns-clause-informed_breaks : goal.returns-clause-informed_breaks
unfolding gives_fate fails found_line lines line_of breaks_C22
returns-clause-informed_breaks c = refl

pub returns-clause-informed_keeps : goal.returns-clause-informed_keeps
unfolding gives_fate fails found_line lines line_of breaks_C22
returns-clause-informed_keeps c = refl

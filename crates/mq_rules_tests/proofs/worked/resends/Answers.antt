use Rattle.std.proofs.Common.{refl}
use Rattle.mq_rules.specs.Rules.{found_line, lines, line_of}
use Rattle.mq_rules.specs.Statements.{fails}
use Rattle.mq_rules.specs.Identifiers.{breaks_S02, breaks_S03, breaks_S04, breaks_S05}
use Rattle.mq_rules_tests.proofs.worked.resends.Goals as goal
use Rattle.mq_rules.specs.Connections.{gives_fate}

pub returns-clause-unknown_breaks : goal.returns-clause-unknown_breaks
unfolding gives_fate fails found_line lines line_of breaks_S02
returns-clause-unknown_breaks c = refl

pub returns-clause-unknown_keeps : goal.returns-clause-unknown_keeps
unfolding gives_fate fails found_line lines line_of breaks_S02
returns-clause-unknown_keeps c = refl

pub returns-clause-void_keeps : goal.returns-clause-void_keeps
unfolding gives_fate fails found_line lines line_of breaks_S02
returns-clause-void_keeps c = refl

pub returns-clause-server_unknown_breaks : goal.returns-clause-server_unknown_breaks
unfolding gives_fate fails found_line lines line_of breaks_S02
returns-clause-server_unknown_breaks c = refl

pub returns-clause-server_unknown_keeps : goal.returns-clause-server_unknown_keeps
unfolding gives_fate fails found_line lines line_of breaks_S02
returns-clause-server_unknown_keeps c = refl

pub returns-clause-same_breaks : goal.returns-clause-same_breaks
unfolding gives_fate fails found_line lines line_of breaks_S03
returns-clause-same_breaks c = refl

pub returns-clause-same_keeps : goal.returns-clause-same_keeps
unfolding gives_fate fails found_line lines line_of breaks_S03
returns-clause-same_keeps c = refl

pub returns-clause-server_same_breaks : goal.returns-clause-server_same_breaks
unfolding gives_fate fails found_line lines line_of breaks_S03
returns-clause-server_same_breaks c = refl

pub returns-clause-released_breaks : goal.returns-clause-released_breaks
unfolding gives_fate fails found_line lines line_of breaks_S04
returns-clause-released_breaks c = refl

pub returns-clause-released_keeps : goal.returns-clause-released_keeps
unfolding gives_fate fails found_line lines line_of breaks_S04
returns-clause-released_keeps c = refl

pub returns-clause-server_released_breaks : goal.returns-clause-server_released_breaks
unfolding gives_fate fails found_line lines line_of breaks_S04
returns-clause-server_released_breaks c = refl

pub returns-clause-order_breaks : goal.returns-clause-order_breaks
unfolding gives_fate fails found_line lines line_of breaks_S05
returns-clause-order_breaks c = refl

pub returns-clause-order_keeps : goal.returns-clause-order_keeps
unfolding gives_fate fails found_line lines line_of breaks_S05
returns-clause-order_keeps c = refl

pub returns-clause-server_same_keeps : goal.returns-clause-server_same_keeps
unfolding gives_fate fails found_line lines line_of breaks_S03
returns-clause-server_same_keeps c = refl

pub returns-clause-server_released_keeps : goal.returns-clause-server_released_keeps
unfolding gives_fate fails found_line lines line_of breaks_S04
returns-clause-server_released_keeps c = refl

pub returns-clause-cut_keeps : goal.returns-clause-cut_keeps
unfolding gives_fate fails found_line lines line_of breaks_S02
returns-clause-cut_keeps c = refl

pub returns-clause-uncut_breaks : goal.returns-clause-uncut_breaks
unfolding gives_fate fails found_line lines line_of breaks_S02
returns-clause-uncut_breaks c = refl

pub returns-clause-cut_breaks_new : goal.returns-clause-cut_breaks_new
unfolding gives_fate fails found_line lines line_of breaks_S02
returns-clause-cut_breaks_new c = refl

pub returns-clause-cut_keeps_void : goal.returns-clause-cut_keeps_void
unfolding gives_fate fails found_line lines line_of breaks_S02
returns-clause-cut_keeps_void c = refl

pub returns-clause-early_keeps : goal.returns-clause-early_keeps
unfolding gives_fate fails found_line lines line_of breaks_S02
returns-clause-early_keeps c = refl

pub returns-clause-early_breaks_other : goal.returns-clause-early_breaks_other
unfolding gives_fate fails found_line lines line_of breaks_S02
returns-clause-early_breaks_other c = refl

pub returns-clause-early_breaks_same : goal.returns-clause-early_breaks_same
unfolding gives_fate fails found_line lines line_of breaks_S02
returns-clause-early_breaks_same c = refl

pub returns-clause-server_cut_keeps : goal.returns-clause-server_cut_keeps
unfolding gives_fate fails found_line lines line_of breaks_S02
returns-clause-server_cut_keeps c = refl

pub returns-clause-server_early_breaks : goal.returns-clause-server_early_breaks
unfolding gives_fate fails found_line lines line_of breaks_S02
returns-clause-server_early_breaks c = refl

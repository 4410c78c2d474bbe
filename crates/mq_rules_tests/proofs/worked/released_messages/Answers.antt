use Rattle.std.proofs.Common.{refl}
use Rattle.mq_rules.specs.Rules.{found_line, lines, line_of}
use Rattle.mq_rules.specs.Statements.{fails}
use Rattle.mq_rules.specs.Releases.{breaks_L1, breaks_L2, breaks_L3}
use Rattle.mq_rules_tests.proofs.worked.released_messages.Goals as goal
use Rattle.mq_rules.specs.Connections.{gives_fate}

pub returns-clause-nothing_breaks : goal.returns-clause-nothing_breaks
unfolding gives_fate fails found_line lines line_of breaks_L1
returns-clause-nothing_breaks c = refl

pub returns-clause-nothing_keeps : goal.returns-clause-nothing_keeps
unfolding gives_fate fails found_line lines line_of breaks_L1
returns-clause-nothing_keeps c = refl

pub returns-clause-between_keeps : goal.returns-clause-between_keeps
unfolding gives_fate fails found_line lines line_of breaks_L1
returns-clause-between_keeps c = refl

pub returns-clause-before_breaks : goal.returns-clause-before_breaks
unfolding gives_fate fails found_line lines line_of breaks_L1
returns-clause-before_breaks c = refl

pub returns-clause-server_nothing_breaks : goal.returns-clause-server_nothing_breaks
unfolding gives_fate fails found_line lines line_of breaks_L1
returns-clause-server_nothing_breaks c = refl

pub returns-clause-server_nothing_keeps : goal.returns-clause-server_nothing_keeps
unfolding gives_fate fails found_line lines line_of breaks_L1
returns-clause-server_nothing_keeps c = refl

pub returns-clause-twice_breaks : goal.returns-clause-twice_breaks
unfolding gives_fate fails found_line lines line_of breaks_L2
returns-clause-twice_breaks c = refl

pub returns-clause-twice_keeps : goal.returns-clause-twice_keeps
unfolding gives_fate fails found_line lines line_of breaks_L2
returns-clause-twice_keeps c = refl

pub returns-clause-before_keeps : goal.returns-clause-before_keeps
unfolding gives_fate fails found_line lines line_of breaks_L2
returns-clause-before_keeps c = refl

pub returns-clause-server_twice_breaks : goal.returns-clause-server_twice_breaks
unfolding gives_fate fails found_line lines line_of breaks_L2
returns-clause-server_twice_breaks c = refl

pub returns-clause-completed_breaks : goal.returns-clause-completed_breaks
unfolding gives_fate fails found_line lines line_of breaks_L3
returns-clause-completed_breaks c = refl

pub returns-clause-completed_keeps : goal.returns-clause-completed_keeps
unfolding gives_fate fails found_line lines line_of breaks_L3
returns-clause-completed_keeps c = refl

pub returns-clause-expiring_keeps : goal.returns-clause-expiring_keeps
unfolding gives_fate fails found_line lines line_of breaks_L3
returns-clause-expiring_keeps c = refl

pub returns-clause-unmatched_keeps : goal.returns-clause-unmatched_keeps
unfolding gives_fate fails found_line lines line_of breaks_L3
returns-clause-unmatched_keeps c = refl

pub returns-clause-server_completed_breaks : goal.returns-clause-server_completed_breaks
unfolding gives_fate fails found_line lines line_of breaks_L3
returns-clause-server_completed_breaks c = refl

pub returns-clause-server_twice_keeps : goal.returns-clause-server_twice_keeps
unfolding gives_fate fails found_line lines line_of breaks_L2
returns-clause-server_twice_keeps c = refl

pub returns-clause-server_completed_keeps : goal.returns-clause-server_completed_keeps
unfolding gives_fate fails found_line lines line_of breaks_L3
returns-clause-server_completed_keeps c = refl

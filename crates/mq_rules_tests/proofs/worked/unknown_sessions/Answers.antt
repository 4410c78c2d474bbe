use Rattle.std.proofs.Common.{refl}
use Rattle.mq_rules.specs.Rules.{found_line, lines, line_of}
use Rattle.mq_rules.specs.Statements.{fails}
use Rattle.mq_rules.specs.Pasts.{breaks_C13}
use Rattle.mq_rules_tests.proofs.worked.unknown_sessions.Goals as goal
use Rattle.mq_rules.specs.Connections.{gives_fate}

pub returns-clause-breaks : goal.returns-clause-breaks
unfolding gives_fate fails found_line lines line_of breaks_C13
returns-clause-breaks c = refl

pub returns-clause-keeps : goal.returns-clause-keeps
unfolding gives_fate fails found_line lines line_of breaks_C13
returns-clause-keeps c = refl

pub returns-clause-clean_breaks : goal.returns-clause-clean_breaks
unfolding gives_fate fails found_line lines line_of breaks_C13
returns-clause-clean_breaks c = refl

pub returns-clause-keeps_alive : goal.returns-clause-keeps_alive
unfolding gives_fate fails found_line lines line_of breaks_C13
returns-clause-keeps_alive c = refl

pub returns-clause-ended_breaks : goal.returns-clause-ended_breaks
unfolding gives_fate fails found_line lines line_of breaks_C13
returns-clause-ended_breaks c = refl

pub returns-clause-keeps_unanswered : goal.returns-clause-keeps_unanswered
unfolding gives_fate fails found_line lines line_of breaks_C13
returns-clause-keeps_unanswered c = refl

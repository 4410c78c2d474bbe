use Rattle.std.proofs.Common.{refl}
use Rattle.mq_rules.specs.Rules.{found_line, lines, line_of}
use Rattle.mq_rules.specs.Statements.{fails}
use Rattle.mq_rules.specs.Pasts.{breaks_C07, breaks_C08, breaks_C09}
use Rattle.mq_rules_tests.proofs.worked.resumptions.Goals as goal
use Rattle.mq_rules.specs.Connections.{gives_fate}

pub returns-clause-clean_breaks : goal.returns-clause-clean_breaks
unfolding gives_fate fails found_line lines line_of breaks_C07
returns-clause-clean_breaks c = refl

pub returns-clause-clean_keeps : goal.returns-clause-clean_keeps
unfolding gives_fate fails found_line lines line_of breaks_C07
returns-clause-clean_keeps c = refl

pub returns-clause-alive_breaks : goal.returns-clause-alive_breaks
unfolding gives_fate fails found_line lines line_of breaks_C08
returns-clause-alive_breaks c = refl

pub returns-clause-alive_keeps : goal.returns-clause-alive_keeps
unfolding gives_fate fails found_line lines line_of breaks_C08
returns-clause-alive_keeps c = refl

pub returns-clause-alive_keeps_unanswered : goal.returns-clause-alive_keeps_unanswered
unfolding gives_fate fails found_line lines line_of breaks_C08
returns-clause-alive_keeps_unanswered c = refl

pub returns-clause-alive_breaks_refused : goal.returns-clause-alive_breaks_refused
unfolding gives_fate fails found_line lines line_of breaks_C08
returns-clause-alive_breaks_refused c = refl

pub returns-clause-alive_breaks_disconnected : goal.returns-clause-alive_breaks_disconnected
unfolding gives_fate fails found_line lines line_of breaks_C08
returns-clause-alive_breaks_disconnected c = refl

pub returns-clause-refusal_breaks : goal.returns-clause-refusal_breaks
unfolding gives_fate fails found_line lines line_of breaks_C09
returns-clause-refusal_breaks c = refl

pub returns-clause-refusal_keeps : goal.returns-clause-refusal_keeps
unfolding gives_fate fails found_line lines line_of breaks_C09
returns-clause-refusal_keeps c = refl

use Rattle.std.proofs.Common.{refl}
use Rattle.mq_rules.specs.Rules.{found_line, lines, line_of}
use Rattle.mq_rules.specs.Statements.{fails}
use Rattle.mq_rules.specs.Connections.{is_binding, gives_fate}
use Rattle.mq_rules.specs.Identifiers.{shows_S06}
use Rattle.mq_rules_tests.proofs.worked.redelivery.Goals as goal

pub returns-clause-breaks : goal.returns-clause-breaks
unfolding gives_fate fails found_line lines line_of shows_S06 is_binding
returns-clause-breaks c = refl

pub returns-clause-keeps : goal.returns-clause-keeps
unfolding gives_fate fails found_line lines line_of shows_S06 is_binding
returns-clause-keeps c = refl

pub returns-clause-keeps_announced : goal.returns-clause-keeps_announced
unfolding gives_fate fails found_line lines line_of shows_S06 is_binding
returns-clause-keeps_announced c = refl

pub returns-clause-server_breaks : goal.returns-clause-server_breaks
unfolding gives_fate fails found_line lines line_of shows_S06 is_binding
returns-clause-server_breaks c = refl

pub returns-clause-server_keeps : goal.returns-clause-server_keeps
unfolding gives_fate fails found_line lines line_of shows_S06 is_binding
returns-clause-server_keeps c = refl

pub returns-clause-keeps_retained : goal.returns-clause-keeps_retained
unfolding gives_fate fails found_line lines line_of shows_S06 is_binding
returns-clause-keeps_retained c = refl

pub returns-clause-breaks_retaining : goal.returns-clause-breaks_retaining
unfolding gives_fate fails found_line lines line_of shows_S06 is_binding
returns-clause-breaks_retaining c = refl

pub returns-clause-breaks_unretained : goal.returns-clause-breaks_unretained
unfolding gives_fate fails found_line lines line_of shows_S06 is_binding
returns-clause-breaks_unretained c = refl

pub returns-clause-breaks_confirmed : goal.returns-clause-breaks_confirmed
unfolding gives_fate fails found_line lines line_of shows_S06 is_binding
returns-clause-breaks_confirmed c = refl

pub returns-clause-keeps_waiting : goal.returns-clause-keeps_waiting
unfolding gives_fate fails found_line lines line_of shows_S06 is_binding
returns-clause-keeps_waiting c = refl

pub returns-clause-keeps_released : goal.returns-clause-keeps_released
unfolding gives_fate fails found_line lines line_of shows_S06 is_binding
returns-clause-keeps_released c = refl

pub returns-clause-breaks_answered : goal.returns-clause-breaks_answered
unfolding gives_fate fails found_line lines line_of shows_S06 is_binding
returns-clause-breaks_answered c = refl

pub returns-clause-breaks_asked_before : goal.returns-clause-breaks_asked_before
unfolding gives_fate fails found_line lines line_of shows_S06 is_binding
returns-clause-breaks_asked_before c = refl

pub returns-clause-server_keeps_early : goal.returns-clause-server_keeps_early
unfolding gives_fate fails found_line lines line_of shows_S06 is_binding
returns-clause-server_keeps_early c = refl

pub returns-clause-server_keeps_passed_over : goal.returns-clause-server_keeps_passed_over
unfolding gives_fate fails found_line lines line_of shows_S06 is_binding
returns-clause-server_keeps_passed_over c = refl

pub returns-clause-server_breaks_sent_again : goal.returns-clause-server_breaks_sent_again
unfolding gives_fate fails found_line lines line_of shows_S06 is_binding
returns-clause-server_breaks_sent_again c = refl

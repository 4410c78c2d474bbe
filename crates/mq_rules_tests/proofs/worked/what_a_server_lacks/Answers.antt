use Rattle.std.proofs.Common.{refl}
use Rattle.mq_rules.specs.Rules.{found_line, lines, line_of}
use Rattle.mq_rules.specs.Connections.{gives_fate}
use Rattle.mq_rules.specs.Statements.{fails}
use Rattle.mq_rules.specs.FurtherPasts.{breaks_F01, breaks_F02, breaks_F03, breaks_F04}
use Rattle.mq_rules_tests.proofs.worked.what_a_server_lacks.Goals as goal

pub returns-clause-retain_breaks : goal.returns-clause-retain_breaks
unfolding gives_fate fails found_line lines line_of breaks_F01
returns-clause-retain_breaks c = refl

pub returns-clause-retain_keeps : goal.returns-clause-retain_keeps
unfolding gives_fate fails found_line lines line_of breaks_F01
returns-clause-retain_keeps c = refl

pub returns-clause-retain_keeps_before : goal.returns-clause-retain_keeps_before
unfolding gives_fate fails found_line lines line_of breaks_F01
returns-clause-retain_keeps_before c = refl

pub returns-clause-retain_keeps_again : goal.returns-clause-retain_keeps_again
unfolding gives_fate fails found_line lines line_of breaks_F01
returns-clause-retain_keeps_again c = refl

pub returns-clause-retain_keeps_available : goal.returns-clause-retain_keeps_available
unfolding gives_fate fails found_line lines line_of breaks_F01
returns-clause-retain_keeps_available c = refl

pub returns-clause-retain_keeps_unasked : goal.returns-clause-retain_keeps_unasked
unfolding gives_fate fails found_line lines line_of breaks_F01
returns-clause-retain_keeps_unasked c = refl

pub returns-clause-wildcard_breaks : goal.returns-clause-wildcard_breaks
unfolding gives_fate fails found_line lines line_of breaks_F02
returns-clause-wildcard_breaks c = refl

pub returns-clause-wildcard_keeps : goal.returns-clause-wildcard_keeps
unfolding gives_fate fails found_line lines line_of breaks_F02
returns-clause-wildcard_keeps c = refl

pub returns-clause-wildcard_keeps_unsaid : goal.returns-clause-wildcard_keeps_unsaid
unfolding gives_fate fails found_line lines line_of breaks_F02
returns-clause-wildcard_keeps_unsaid c = refl

pub returns-clause-identifier_breaks : goal.returns-clause-identifier_breaks
unfolding gives_fate fails found_line lines line_of breaks_F03
returns-clause-identifier_breaks c = refl

pub returns-clause-identifier_keeps : goal.returns-clause-identifier_keeps
unfolding gives_fate fails found_line lines line_of breaks_F03
returns-clause-identifier_keeps c = refl

pub returns-clause-share_breaks : goal.returns-clause-share_breaks
unfolding gives_fate fails found_line lines line_of breaks_F04
returns-clause-share_breaks c = refl

pub returns-clause-share_keeps : goal.returns-clause-share_keeps
unfolding gives_fate fails found_line lines line_of breaks_F04
returns-clause-share_keeps c = refl

pub returns-clause-share_keeps_before : goal.returns-clause-share_keeps_before
unfolding gives_fate fails found_line lines line_of breaks_F04
returns-clause-share_keeps_before c = refl

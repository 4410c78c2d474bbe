use Rattle.std.proofs.Common.{refl}
use Rattle.mq_rules.specs.Rules.{found_line, lines, line_of}
use Rattle.mq_rules.specs.Connections.{gives_fate}
use Rattle.mq_rules.specs.Statements.{fails}
use Rattle.mq_rules.specs.FurtherRests.{shows_C24}
use Rattle.mq_rules_tests.proofs.worked.after_a_connect.Goals as goal

pub returns-clause-rest_breaks : goal.returns-clause-rest_breaks
unfolding gives_fate fails found_line lines line_of shows_C24
returns-clause-rest_breaks c = refl

pub returns-clause-connack_keeps : goal.returns-clause-connack_keeps
unfolding gives_fate fails found_line lines line_of shows_C24
returns-clause-connack_keeps c = refl

pub returns-clause-refusal_keeps : goal.returns-clause-refusal_keeps
unfolding gives_fate fails found_line lines line_of shows_C24
returns-clause-refusal_keeps c = refl

pub returns-clause-late_connack_breaks : goal.returns-clause-late_connack_breaks
unfolding gives_fate fails found_line lines line_of shows_C24
returns-clause-late_connack_breaks c = refl

pub returns-clause-close_keeps : goal.returns-clause-close_keeps
unfolding gives_fate fails found_line lines line_of shows_C24
returns-clause-close_keeps c = refl

pub returns-clause-waiting_keeps : goal.returns-clause-waiting_keeps
unfolding gives_fate fails found_line lines line_of shows_C24
returns-clause-waiting_keeps c = refl

pub returns-clause-authenticated_breaks : goal.returns-clause-authenticated_breaks
unfolding gives_fate fails found_line lines line_of shows_C24
returns-clause-authenticated_breaks c = refl

pub returns-clause-later_rest_breaks : goal.returns-clause-later_rest_breaks
unfolding gives_fate fails found_line lines line_of shows_C24
returns-clause-later_rest_breaks c = refl

pub returns-clause-early_auth_keeps : goal.returns-clause-early_auth_keeps
unfolding gives_fate fails found_line lines line_of shows_C24
returns-clause-early_auth_keeps c = refl

pub returns-clause-late_auth_breaks : goal.returns-clause-late_auth_breaks
unfolding gives_fate fails found_line lines line_of shows_C24
returns-clause-late_auth_breaks c = refl

pub returns-clause-second_breaks : goal.returns-clause-second_breaks
unfolding gives_fate fails found_line lines line_of shows_C24
returns-clause-second_breaks c = refl

pub returns-clause-left_keeps : goal.returns-clause-left_keeps
unfolding gives_fate fails found_line lines line_of shows_C24
returns-clause-left_keeps c = refl

pub returns-clause-goodbye_keeps : goal.returns-clause-goodbye_keeps
unfolding gives_fate fails found_line lines line_of shows_C24
returns-clause-goodbye_keeps c = refl

pub returns-clause-connack_before_keeps : goal.returns-clause-connack_before_keeps
unfolding gives_fate fails found_line lines line_of shows_C24
returns-clause-connack_before_keeps c = refl

pub returns-clause-bytes_keep : goal.returns-clause-bytes_keep
unfolding gives_fate fails found_line lines line_of shows_C24
returns-clause-bytes_keep c = refl

pub returns-clause-received_bytes_keep : goal.returns-clause-received_bytes_keep
unfolding gives_fate fails found_line lines line_of shows_C24
returns-clause-received_bytes_keep c = refl

pub returns-clause-sent_bytes_keep : goal.returns-clause-sent_bytes_keep
unfolding gives_fate fails found_line lines line_of shows_C24
returns-clause-sent_bytes_keep c = refl

pub returns-clause-lost_keeps : goal.returns-clause-lost_keeps
unfolding gives_fate fails found_line lines line_of shows_C24
returns-clause-lost_keeps c = refl

pub returns-clause-small_keeps : goal.returns-clause-small_keeps
unfolding gives_fate fails found_line lines line_of shows_C24
returns-clause-small_keeps c = refl

pub returns-clause-large_enough_breaks : goal.returns-clause-large_enough_breaks
unfolding gives_fate fails found_line lines line_of shows_C24
returns-clause-large_enough_breaks c = refl

pub returns-clause-no_connect_keeps : goal.returns-clause-no_connect_keeps
unfolding gives_fate fails found_line lines line_of shows_C24
returns-clause-no_connect_keeps c = refl

pub returns-clause-anew_breaks : goal.returns-clause-anew_breaks
unfolding gives_fate fails found_line lines line_of shows_C24
returns-clause-anew_breaks c = refl

pub returns-clause-unasked_keeps : goal.returns-clause-unasked_keeps
unfolding gives_fate fails found_line lines line_of shows_C24
returns-clause-unasked_keeps c = refl

pub returns-clause-client_keeps : goal.returns-clause-client_keeps
unfolding gives_fate fails found_line lines line_of shows_C24
returns-clause-client_keeps c = refl

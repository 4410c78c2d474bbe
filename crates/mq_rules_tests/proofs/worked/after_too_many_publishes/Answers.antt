use Rattle.std.proofs.Common.{refl}
use Rattle.mq_rules.specs.Rules.{found_line, lines, line_of}
use Rattle.mq_rules.specs.Connections.{gives_fate}
use Rattle.mq_rules.specs.Statements.{fails}
use Rattle.mq_rules.specs.FurtherRests.{shows_D05}
use Rattle.mq_rules.specs.ReceiveMaximum.{unfinished}
use Rattle.mq_rules_tests.proofs.worked.after_too_many_publishes.Goals as goal

pub returns-clause-above_breaks : goal.returns-clause-above_breaks
unfolding gives_fate fails found_line lines line_of shows_D05 unfinished
returns-clause-above_breaks c = refl

pub returns-clause-as_many_keeps : goal.returns-clause-as_many_keeps
unfolding gives_fate fails found_line lines line_of shows_D05 unfinished
returns-clause-as_many_keeps c = refl

pub returns-clause-received_breaks : goal.returns-clause-received_breaks
unfolding gives_fate fails found_line lines line_of shows_D05 unfinished
returns-clause-received_breaks c = refl

pub returns-clause-released_keeps : goal.returns-clause-released_keeps
unfolding gives_fate fails found_line lines line_of shows_D05 unfinished
returns-clause-released_keeps c = refl

pub returns-clause-completed_keeps : goal.returns-clause-completed_keeps
unfolding gives_fate fails found_line lines line_of shows_D05 unfinished
returns-clause-completed_keeps c = refl

pub returns-clause-refused_before_keeps : goal.returns-clause-refused_before_keeps
unfolding gives_fate fails found_line lines line_of shows_D05 unfinished
returns-clause-refused_before_keeps c = refl

pub returns-clause-refused_after_keeps : goal.returns-clause-refused_after_keeps
unfolding gives_fate fails found_line lines line_of shows_D05 unfinished
returns-clause-refused_after_keeps c = refl

pub returns-clause-refused_later_breaks : goal.returns-clause-refused_later_breaks
unfolding gives_fate fails found_line lines line_of shows_D05 unfinished
returns-clause-refused_later_breaks c = refl

pub returns-clause-refused_elsewhere_breaks : goal.returns-clause-refused_elsewhere_breaks
unfolding gives_fate fails found_line lines line_of shows_D05 unfinished
returns-clause-refused_elsewhere_breaks c = refl

pub returns-clause-refused_before_keeps_too : goal.returns-clause-refused_before_keeps_too
unfolding gives_fate fails found_line lines line_of shows_D05 unfinished
returns-clause-refused_before_keeps_too c = refl

pub returns-clause-once_keeps : goal.returns-clause-once_keeps
unfolding gives_fate fails found_line lines line_of shows_D05 unfinished
returns-clause-once_keeps c = refl

pub returns-clause-once_beside_keeps : goal.returns-clause-once_beside_keeps
unfolding gives_fate fails found_line lines line_of shows_D05 unfinished
returns-clause-once_beside_keeps c = refl

pub returns-clause-at_most_once_keeps : goal.returns-clause-at_most_once_keeps
unfolding gives_fate fails found_line lines line_of shows_D05 unfinished
returns-clause-at_most_once_keeps c = refl

pub returns-clause-resend_keeps : goal.returns-clause-resend_keeps
unfolding gives_fate fails found_line lines line_of shows_D05 unfinished
returns-clause-resend_keeps c = refl

pub returns-clause-resend_breaks : goal.returns-clause-resend_breaks
unfolding gives_fate fails found_line lines line_of shows_D05 unfinished
returns-clause-resend_breaks c = refl

pub returns-clause-again_breaks : goal.returns-clause-again_breaks
unfolding gives_fate fails found_line lines line_of shows_D05 unfinished
returns-clause-again_breaks c = refl

pub returns-clause-other_release_breaks : goal.returns-clause-other_release_breaks
unfolding gives_fate fails found_line lines line_of shows_D05 unfinished
returns-clause-other_release_breaks c = refl

pub returns-clause-sent_release_breaks : goal.returns-clause-sent_release_breaks
unfolding gives_fate fails found_line lines line_of shows_D05 unfinished
returns-clause-sent_release_breaks c = refl

pub returns-clause-clients_answer_breaks : goal.returns-clause-clients_answer_breaks
unfolding gives_fate fails found_line lines line_of shows_D05 unfinished
returns-clause-clients_answer_breaks c = refl

pub returns-clause-puback_breaks : goal.returns-clause-puback_breaks
unfolding gives_fate fails found_line lines line_of shows_D05 unfinished
returns-clause-puback_breaks c = refl

pub returns-clause-before_connack_breaks : goal.returns-clause-before_connack_breaks
unfolding gives_fate fails found_line lines line_of shows_D05 unfinished
returns-clause-before_connack_breaks c = refl

pub returns-clause-both_before_connack_keeps : goal.returns-clause-both_before_connack_keeps
unfolding gives_fate fails found_line lines line_of shows_D05 unfinished
returns-clause-both_before_connack_keeps c = refl

pub returns-clause-resend_after_connack_breaks : goal.returns-clause-resend_after_connack_breaks
unfolding gives_fate fails found_line lines line_of shows_D05 unfinished
returns-clause-resend_after_connack_breaks c = refl

pub returns-clause-greater_maximum_keeps : goal.returns-clause-greater_maximum_keeps
unfolding gives_fate fails found_line lines line_of shows_D05 unfinished
returns-clause-greater_maximum_keeps c = refl

pub returns-clause-greater_maximum_breaks : goal.returns-clause-greater_maximum_breaks
unfolding gives_fate fails found_line lines line_of shows_D05 unfinished
returns-clause-greater_maximum_breaks c = refl

pub returns-clause-default_keeps : goal.returns-clause-default_keeps
unfolding gives_fate fails found_line lines line_of shows_D05 unfinished
returns-clause-default_keeps c = refl

pub returns-clause-first_connack_counts : goal.returns-clause-first_connack_counts
unfolding gives_fate fails found_line lines line_of shows_D05 unfinished
returns-clause-first_connack_counts c = refl

pub returns-clause-clients_maximum_keeps : goal.returns-clause-clients_maximum_keeps
unfolding gives_fate fails found_line lines line_of shows_D05 unfinished
returns-clause-clients_maximum_keeps c = refl

pub returns-clause-next_keeps : goal.returns-clause-next_keeps
unfolding gives_fate fails found_line lines line_of shows_D05 unfinished
returns-clause-next_keeps c = refl

pub returns-clause-anew_breaks : goal.returns-clause-anew_breaks
unfolding gives_fate fails found_line lines line_of shows_D05 unfinished
returns-clause-anew_breaks c = refl

pub returns-clause-second_keeps : goal.returns-clause-second_keeps
unfolding gives_fate fails found_line lines line_of shows_D05 unfinished
returns-clause-second_keeps c = refl

pub returns-clause-close_keeps : goal.returns-clause-close_keeps
unfolding gives_fate fails found_line lines line_of shows_D05 unfinished
returns-clause-close_keeps c = refl

pub returns-clause-goodbye_keeps : goal.returns-clause-goodbye_keeps
unfolding gives_fate fails found_line lines line_of shows_D05 unfinished
returns-clause-goodbye_keeps c = refl

pub returns-clause-late_goodbye_breaks : goal.returns-clause-late_goodbye_breaks
unfolding gives_fate fails found_line lines line_of shows_D05 unfinished
returns-clause-late_goodbye_breaks c = refl

pub returns-clause-no_rest_keeps : goal.returns-clause-no_rest_keeps
unfolding gives_fate fails found_line lines line_of shows_D05 unfinished
returns-clause-no_rest_keeps c = refl

pub returns-clause-left_keeps : goal.returns-clause-left_keeps
unfolding gives_fate fails found_line lines line_of shows_D05 unfinished
returns-clause-left_keeps c = refl

pub returns-clause-bytes_keep : goal.returns-clause-bytes_keep
unfolding gives_fate fails found_line lines line_of shows_D05 unfinished
returns-clause-bytes_keep c = refl

pub returns-clause-unasked_keeps : goal.returns-clause-unasked_keeps
unfolding gives_fate fails found_line lines line_of shows_D05 unfinished
returns-clause-unasked_keeps c = refl

pub returns-clause-client_keeps : goal.returns-clause-client_keeps
unfolding gives_fate fails found_line lines line_of shows_D05 unfinished
returns-clause-client_keeps c = refl

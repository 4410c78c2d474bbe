use Rattle.std.proofs.Common.{refl}
use Rattle.mq_rules.specs.Rules.{found_line, lines, line_of}
use Rattle.mq_rules.specs.Connections.{gives_fate}
use Rattle.mq_rules.specs.Statements.{fails}
use Rattle.mq_rules.specs.FurtherRests.{shows_D01}
use Rattle.mq_rules_tests.proofs.worked.after_a_malformed_packet.Goals as goal

pub returns-clause-rest_breaks : goal.returns-clause-rest_breaks
unfolding gives_fate fails found_line lines line_of shows_D01
returns-clause-rest_breaks c = refl

pub returns-clause-close_keeps : goal.returns-clause-close_keeps
unfolding gives_fate fails found_line lines line_of shows_D01
returns-clause-close_keeps c = refl

pub returns-clause-goodbye_keeps : goal.returns-clause-goodbye_keeps
unfolding gives_fate fails found_line lines line_of shows_D01
returns-clause-goodbye_keeps c = refl

pub returns-clause-late_goodbye_breaks : goal.returns-clause-late_goodbye_breaks
unfolding gives_fate fails found_line lines line_of shows_D01
returns-clause-late_goodbye_breaks c = refl

pub returns-clause-lost_breaks : goal.returns-clause-lost_breaks
unfolding gives_fate fails found_line lines line_of shows_D01
returns-clause-lost_breaks c = refl

pub returns-clause-connect_breaks : goal.returns-clause-connect_breaks
unfolding gives_fate fails found_line lines line_of shows_D01
returns-clause-connect_breaks c = refl

pub returns-clause-refusal_keeps : goal.returns-clause-refusal_keeps
unfolding gives_fate fails found_line lines line_of shows_D01
returns-clause-refusal_keeps c = refl

pub returns-clause-second_keeps : goal.returns-clause-second_keeps
unfolding gives_fate fails found_line lines line_of shows_D01
returns-clause-second_keeps c = refl

pub returns-clause-length_keeps : goal.returns-clause-length_keeps
unfolding gives_fate fails found_line lines line_of shows_D01
returns-clause-length_keeps c = refl

pub returns-clause-duplicate_keeps : goal.returns-clause-duplicate_keeps
unfolding gives_fate fails found_line lines line_of shows_D01
returns-clause-duplicate_keeps c = refl

pub returns-clause-identifier_keeps : goal.returns-clause-identifier_keeps
unfolding gives_fate fails found_line lines line_of shows_D01
returns-clause-identifier_keeps c = refl

pub returns-clause-code_keeps : goal.returns-clause-code_keeps
unfolding gives_fate fails found_line lines line_of shows_D01
returns-clause-code_keeps c = refl

pub returns-clause-topic_keeps : goal.returns-clause-topic_keeps
unfolding gives_fate fails found_line lines line_of shows_D01
returns-clause-topic_keeps c = refl

pub returns-clause-filter_keeps : goal.returns-clause-filter_keeps
unfolding gives_fate fails found_line lines line_of shows_D01
returns-clause-filter_keeps c = refl

pub returns-clause-after_a_filter_breaks : goal.returns-clause-after_a_filter_breaks
unfolding gives_fate fails found_line lines line_of shows_D01
returns-clause-after_a_filter_breaks c = refl

pub returns-clause-sent_keeps : goal.returns-clause-sent_keeps
unfolding gives_fate fails found_line lines line_of shows_D01
returns-clause-sent_keeps c = refl

pub returns-clause-no_rest_keeps : goal.returns-clause-no_rest_keeps
unfolding gives_fate fails found_line lines line_of shows_D01
returns-clause-no_rest_keeps c = refl

pub returns-clause-next_keeps : goal.returns-clause-next_keeps
unfolding gives_fate fails found_line lines line_of shows_D01
returns-clause-next_keeps c = refl

pub returns-clause-anew_breaks : goal.returns-clause-anew_breaks
unfolding gives_fate fails found_line lines line_of shows_D01
returns-clause-anew_breaks c = refl

pub returns-clause-left_keeps : goal.returns-clause-left_keeps
unfolding gives_fate fails found_line lines line_of shows_D01
returns-clause-left_keeps c = refl

pub returns-clause-leaving_breaks : goal.returns-clause-leaving_breaks
unfolding gives_fate fails found_line lines line_of shows_D01
returns-clause-leaving_breaks c = refl

pub returns-clause-goodbye_before_keeps : goal.returns-clause-goodbye_before_keeps
unfolding gives_fate fails found_line lines line_of shows_D01
returns-clause-goodbye_before_keeps c = refl

pub returns-clause-unasked_keeps : goal.returns-clause-unasked_keeps
unfolding gives_fate fails found_line lines line_of shows_D01
returns-clause-unasked_keeps c = refl

pub returns-clause-client_keeps : goal.returns-clause-client_keeps
unfolding gives_fate fails found_line lines line_of shows_D01
returns-clause-client_keeps c = refl

use Rattle.std.proofs.Common.{refl}
use Rattle.mq_rules.specs.Rules.{found_line, lines, line_of}
use Rattle.mq_rules.specs.Connections.{gives_fate}
use Rattle.mq_rules.specs.Statements.{fails}
use Rattle.mq_rules.specs.FurtherRests.{shows_D02}
use Rattle.mq_rules_tests.proofs.worked.after_a_second_connect.Goals as goal

pub returns-clause-rest_breaks : goal.returns-clause-rest_breaks
unfolding gives_fate fails found_line lines line_of shows_D02
returns-clause-rest_breaks c = refl

pub returns-clause-close_keeps : goal.returns-clause-close_keeps
unfolding gives_fate fails found_line lines line_of shows_D02
returns-clause-close_keeps c = refl

pub returns-clause-goodbye_keeps : goal.returns-clause-goodbye_keeps
unfolding gives_fate fails found_line lines line_of shows_D02
returns-clause-goodbye_keeps c = refl

pub returns-clause-late_goodbye_breaks : goal.returns-clause-late_goodbye_breaks
unfolding gives_fate fails found_line lines line_of shows_D02
returns-clause-late_goodbye_breaks c = refl

pub returns-clause-early_breaks : goal.returns-clause-early_breaks
unfolding gives_fate fails found_line lines line_of shows_D02
returns-clause-early_breaks c = refl

pub returns-clause-refusal_keeps : goal.returns-clause-refusal_keeps
unfolding gives_fate fails found_line lines line_of shows_D02
returns-clause-refusal_keeps c = refl

pub returns-clause-bytes_break : goal.returns-clause-bytes_break
unfolding gives_fate fails found_line lines line_of shows_D02
returns-clause-bytes_break c = refl

pub returns-clause-first_bytes_break : goal.returns-clause-first_bytes_break
unfolding gives_fate fails found_line lines line_of shows_D02
returns-clause-first_bytes_break c = refl

pub returns-clause-lost_keeps : goal.returns-clause-lost_keeps
unfolding gives_fate fails found_line lines line_of shows_D02
returns-clause-lost_keeps c = refl

pub returns-clause-third_keeps : goal.returns-clause-third_keeps
unfolding gives_fate fails found_line lines line_of shows_D02
returns-clause-third_keeps c = refl

pub returns-clause-no_rest_keeps : goal.returns-clause-no_rest_keeps
unfolding gives_fate fails found_line lines line_of shows_D02
returns-clause-no_rest_keeps c = refl

pub returns-clause-next_keeps : goal.returns-clause-next_keeps
unfolding gives_fate fails found_line lines line_of shows_D02
returns-clause-next_keeps c = refl

pub returns-clause-anew_breaks : goal.returns-clause-anew_breaks
unfolding gives_fate fails found_line lines line_of shows_D02
returns-clause-anew_breaks c = refl

pub returns-clause-left_keeps : goal.returns-clause-left_keeps
unfolding gives_fate fails found_line lines line_of shows_D02
returns-clause-left_keeps c = refl

pub returns-clause-leaving_breaks : goal.returns-clause-leaving_breaks
unfolding gives_fate fails found_line lines line_of shows_D02
returns-clause-leaving_breaks c = refl

pub returns-clause-goodbye_before_keeps : goal.returns-clause-goodbye_before_keeps
unfolding gives_fate fails found_line lines line_of shows_D02
returns-clause-goodbye_before_keeps c = refl

pub returns-clause-unasked_keeps : goal.returns-clause-unasked_keeps
unfolding gives_fate fails found_line lines line_of shows_D02
returns-clause-unasked_keeps c = refl

pub returns-clause-client_keeps : goal.returns-clause-client_keeps
unfolding gives_fate fails found_line lines line_of shows_D02
returns-clause-client_keeps c = refl

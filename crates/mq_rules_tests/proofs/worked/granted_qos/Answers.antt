use Rattle.std.proofs.Common.{refl}
use Rattle.mq_rules.specs.Connections.{gives_fate}
use Rattle.mq_rules.specs.Rules.{found_line, lines, line_of}
use Rattle.mq_rules.specs.Statements.{fails}
use Rattle.mq_rules.specs.Subscriptions.{breaks_B05}
use Rattle.mq_rules_tests.proofs.worked.granted_qos.Goals as goal

pub returns-clause-above_breaks : goal.returns-clause-above_breaks
unfolding gives_fate fails found_line lines line_of breaks_B05
returns-clause-above_breaks c = refl

pub returns-clause-equal_keeps : goal.returns-clause-equal_keeps
unfolding gives_fate fails found_line lines line_of breaks_B05
returns-clause-equal_keeps c = refl

pub returns-clause-less_keeps : goal.returns-clause-less_keeps
unfolding gives_fate fails found_line lines line_of breaks_B05
returns-clause-less_keeps c = refl

pub returns-clause-refused_keeps : goal.returns-clause-refused_keeps
unfolding gives_fate fails found_line lines line_of breaks_B05
returns-clause-refused_keeps c = refl

pub returns-clause-options_break : goal.returns-clause-options_break
unfolding gives_fate fails found_line lines line_of breaks_B05
returns-clause-options_break c = refl

pub returns-clause-exchanged_breaks : goal.returns-clause-exchanged_breaks
unfolding gives_fate fails found_line lines line_of breaks_B05
returns-clause-exchanged_breaks c = refl

pub returns-clause-second_breaks : goal.returns-clause-second_breaks
unfolding gives_fate fails found_line lines line_of breaks_B05
returns-clause-second_breaks c = refl

pub returns-clause-in_order_keeps : goal.returns-clause-in_order_keeps
unfolding gives_fate fails found_line lines line_of breaks_B05
returns-clause-in_order_keeps c = refl

pub returns-clause-many_codes_keep : goal.returns-clause-many_codes_keep
unfolding gives_fate fails found_line lines line_of breaks_B05
returns-clause-many_codes_keep c = refl

pub returns-clause-few_codes_break : goal.returns-clause-few_codes_break
unfolding gives_fate fails found_line lines line_of breaks_B05
returns-clause-few_codes_break c = refl

pub returns-clause-first_keeps : goal.returns-clause-first_keeps
unfolding gives_fate fails found_line lines line_of breaks_B05
returns-clause-first_keeps c = refl

pub returns-clause-answered_breaks : goal.returns-clause-answered_breaks
unfolding gives_fate fails found_line lines line_of breaks_B05
returns-clause-answered_breaks c = refl

pub returns-clause-unknown_keeps : goal.returns-clause-unknown_keeps
unfolding gives_fate fails found_line lines line_of breaks_B05
returns-clause-unknown_keeps c = refl

pub returns-clause-later_keeps : goal.returns-clause-later_keeps
unfolding gives_fate fails found_line lines line_of breaks_B05
returns-clause-later_keeps c = refl

pub returns-clause-early_breaks : goal.returns-clause-early_breaks
unfolding gives_fate fails found_line lines line_of breaks_B05
returns-clause-early_breaks c = refl

pub returns-clause-turned_away_keeps : goal.returns-clause-turned_away_keeps
unfolding gives_fate fails found_line lines line_of breaks_B05
returns-clause-turned_away_keeps c = refl

pub returns-clause-unasked_keeps : goal.returns-clause-unasked_keeps
unfolding gives_fate fails found_line lines line_of breaks_B05
returns-clause-unasked_keeps c = refl

pub returns-clause-client_keeps : goal.returns-clause-client_keeps
unfolding gives_fate fails found_line lines line_of breaks_B05
returns-clause-client_keeps c = refl

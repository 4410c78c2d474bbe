use Rattle.std.proofs.Common.{refl}
use Rattle.mq_rules.specs.Rules.{found_line, lines, line_of}
use Rattle.mq_rules.specs.Connections.{gives_fate}
use Rattle.mq_rules.specs.Occasions.{applies}
use Rattle.mq_rules.specs.FurtherRests.{applies_C24}
use Rattle.mq_rules_tests.proofs.worked_places.places_after_a_connect.Goals as goal

pub returns-clause-answered : goal.returns-clause-answered
unfolding gives_fate applies found_line lines line_of applies_C24
returns-clause-answered c = refl

pub returns-clause-refused : goal.returns-clause-refused
unfolding gives_fate applies found_line lines line_of applies_C24
returns-clause-refused c = refl

pub returns-clause-left_open : goal.returns-clause-left_open
unfolding gives_fate applies found_line lines line_of applies_C24
returns-clause-left_open c = refl

pub returns-clause-answered_late : goal.returns-clause-answered_late
unfolding gives_fate applies found_line lines line_of applies_C24
returns-clause-answered_late c = refl

pub returns-clause-waiting : goal.returns-clause-waiting
unfolding gives_fate applies found_line lines line_of applies_C24
returns-clause-waiting c = refl

pub returns-clause-waited : goal.returns-clause-waited
unfolding gives_fate applies found_line lines line_of applies_C24
returns-clause-waited c = refl

pub returns-clause-closed : goal.returns-clause-closed
unfolding gives_fate applies found_line lines line_of applies_C24
returns-clause-closed c = refl

pub returns-clause-second : goal.returns-clause-second
unfolding gives_fate applies found_line lines line_of applies_C24
returns-clause-second c = refl

pub returns-clause-after_bytes : goal.returns-clause-after_bytes
unfolding gives_fate applies found_line lines line_of applies_C24
returns-clause-after_bytes c = refl

pub returns-clause-small : goal.returns-clause-small
unfolding gives_fate applies found_line lines line_of applies_C24
returns-clause-small c = refl

pub returns-clause-large_enough : goal.returns-clause-large_enough
unfolding gives_fate applies found_line lines line_of applies_C24
returns-clause-large_enough c = refl

pub returns-clause-connack_before : goal.returns-clause-connack_before
unfolding gives_fate applies found_line lines line_of applies_C24
returns-clause-connack_before c = refl

pub returns-clause-connacks_around : goal.returns-clause-connacks_around
unfolding gives_fate applies found_line lines line_of applies_C24
returns-clause-connacks_around c = refl

pub returns-clause-after_goodbye : goal.returns-clause-after_goodbye
unfolding gives_fate applies found_line lines line_of applies_C24
returns-clause-after_goodbye c = refl

pub returns-clause-anew : goal.returns-clause-anew
unfolding gives_fate applies found_line lines line_of applies_C24
returns-clause-anew c = refl

pub returns-clause-unasked : goal.returns-clause-unasked
unfolding gives_fate applies found_line lines line_of applies_C24
returns-clause-unasked c = refl

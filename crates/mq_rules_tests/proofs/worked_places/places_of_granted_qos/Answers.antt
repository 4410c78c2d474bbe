use Rattle.std.proofs.Common.{refl}
use Rattle.mq_rules.specs.Connections.{gives_fate}
use Rattle.mq_rules.specs.Subscriptions.{applies_B05}
use Rattle.mq_rules.specs.Rules.{found_line, lines, line_of}
use Rattle.mq_rules.specs.Occasions.{applies}
use Rattle.mq_rules_tests.proofs.worked_places.places_of_granted_qos.Goals as goal

pub returns-clause-granted : goal.returns-clause-granted
unfolding gives_fate applies found_line lines line_of applies_B05
returns-clause-granted c = refl

pub returns-clause-above : goal.returns-clause-above
unfolding gives_fate applies found_line lines line_of applies_B05
returns-clause-above c = refl

pub returns-clause-refused : goal.returns-clause-refused
unfolding gives_fate applies found_line lines line_of applies_B05
returns-clause-refused c = refl

pub returns-clause-in_part : goal.returns-clause-in_part
unfolding gives_fate applies found_line lines line_of applies_B05
returns-clause-in_part c = refl

pub returns-clause-without_filter : goal.returns-clause-without_filter
unfolding gives_fate applies found_line lines line_of applies_B05
returns-clause-without_filter c = refl

pub returns-clause-without_code : goal.returns-clause-without_code
unfolding gives_fate applies found_line lines line_of applies_B05
returns-clause-without_code c = refl

pub returns-clause-unasked : goal.returns-clause-unasked
unfolding gives_fate applies found_line lines line_of applies_B05
returns-clause-unasked c = refl

use Rattle.std.proofs.Common.{refl}
use Rattle.mq_rules.specs.Connections.{gives_fate, is_binding}
use Rattle.mq_rules.specs.Identifiers.{applies_S06}
use Rattle.mq_rules.specs.Rules.{found_line, lines, line_of}
use Rattle.mq_rules.specs.Occasions.{applies}
use Rattle.mq_rules_tests.proofs.worked_places.places_of_redelivery.Goals as goal

pub returns-clause-owed : goal.returns-clause-owed
unfolding gives_fate applies found_line lines line_of applies_S06 is_binding
returns-clause-owed c = refl

pub returns-clause-waiting : goal.returns-clause-waiting
unfolding gives_fate applies found_line lines line_of applies_S06 is_binding
returns-clause-waiting c = refl

pub returns-clause-completed : goal.returns-clause-completed
unfolding gives_fate applies found_line lines line_of applies_S06 is_binding
returns-clause-completed c = refl

pub returns-clause-excused : goal.returns-clause-excused
unfolding gives_fate applies found_line lines line_of applies_S06 is_binding
returns-clause-excused c = refl

pub returns-clause-completed_before : goal.returns-clause-completed_before
unfolding gives_fate applies found_line lines line_of applies_S06 is_binding
returns-clause-completed_before c = refl

pub returns-clause-new : goal.returns-clause-new
unfolding gives_fate applies found_line lines line_of applies_S06 is_binding
returns-clause-new c = refl

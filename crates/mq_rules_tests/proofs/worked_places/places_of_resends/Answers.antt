use Rattle.std.proofs.Common.{refl}
use Rattle.mq_rules.specs.Connections.{gives_fate}
use Rattle.mq_rules.specs.Identifiers.{applies_S02, applies_S03, applies_S04, applies_S05}
use Rattle.mq_rules.specs.Rules.{found_line, lines, line_of}
use Rattle.mq_rules.specs.Occasions.{applies}
use Rattle.mq_rules_tests.proofs.worked_places.places_of_resends.Goals as goal

pub returns-clause-resent : goal.returns-clause-resent
unfolding gives_fate applies found_line lines line_of applies_S02
returns-clause-resent c = refl

pub returns-clause-unknowing : goal.returns-clause-unknowing
unfolding gives_fate applies found_line lines line_of applies_S02
returns-clause-unknowing c = refl

pub returns-clause-cut_off : goal.returns-clause-cut_off
unfolding gives_fate applies found_line lines line_of applies_S02
returns-clause-cut_off c = refl

pub returns-clause-resent_once : goal.returns-clause-resent_once
unfolding gives_fate applies found_line lines line_of applies_S03
returns-clause-resent_once c = refl

pub returns-clause-released : goal.returns-clause-released
unfolding gives_fate applies found_line lines line_of applies_S04
returns-clause-released c = refl

pub returns-clause-not_released : goal.returns-clause-not_released
unfolding gives_fate applies found_line lines line_of applies_S04
returns-clause-not_released c = refl

pub returns-clause-second : goal.returns-clause-second
unfolding gives_fate applies found_line lines line_of applies_S05
returns-clause-second c = refl

pub returns-clause-second_not_open : goal.returns-clause-second_not_open
unfolding gives_fate applies found_line lines line_of applies_S05
returns-clause-second_not_open c = refl

use Rattle.std.proofs.Common.{refl}
use Rattle.mq_rules.specs.Connections.{gives_fate}
use Rattle.mq_rules.specs.Releases.{applies_L1, applies_L2, applies_L3}
use Rattle.mq_rules.specs.Rules.{found_line, lines, line_of}
use Rattle.mq_rules.specs.Occasions.{applies}
use Rattle.mq_rules_tests.proofs.worked_places.places_of_releases.Goals as goal

pub returns-clause-asked : goal.returns-clause-asked
unfolding gives_fate applies found_line lines line_of applies_L1
returns-clause-asked c = refl

pub returns-clause-not_placed : goal.returns-clause-not_placed
unfolding gives_fate applies found_line lines line_of applies_L1
returns-clause-not_placed c = refl

pub returns-clause-once_only : goal.returns-clause-once_only
unfolding gives_fate applies found_line lines line_of applies_L2
returns-clause-once_only c = refl

pub returns-clause-completed : goal.returns-clause-completed
unfolding gives_fate applies found_line lines line_of applies_L3
returns-clause-completed c = refl

pub returns-clause-lapsed : goal.returns-clause-lapsed
unfolding gives_fate applies found_line lines line_of applies_L3
returns-clause-lapsed c = refl

use Rattle.std.proofs.Common.{refl}
use Rattle.mq_rules.specs.Connections.{gives_fate}
use Rattle.mq_rules.specs.Pasts.{applies_C19, applies_C20}
use Rattle.mq_rules.specs.Rules.{found_line, lines, line_of}
use Rattle.mq_rules.specs.Occasions.{applies}
use Rattle.mq_rules_tests.proofs.worked_places.places_of_leaving.Goals as goal

pub returns-clause-server_leaves : goal.returns-clause-server_leaves
unfolding gives_fate applies found_line lines line_of applies_C19
returns-clause-server_leaves c = refl

pub returns-clause-interval : goal.returns-clause-interval
unfolding gives_fate applies found_line lines line_of applies_C20
returns-clause-interval c = refl

pub returns-clause-interval_zero : goal.returns-clause-interval_zero
unfolding gives_fate applies found_line lines line_of applies_C20
returns-clause-interval_zero c = refl

pub returns-clause-no_interval : goal.returns-clause-no_interval
unfolding gives_fate applies found_line lines line_of applies_C20
returns-clause-no_interval c = refl

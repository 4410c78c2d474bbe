use Rattle.std.proofs.Common.{refl}
use Rattle.mq_rules.specs.Connections.{gives_fate}
use Rattle.mq_rules.specs.Exchanges.{applies_O}
use Rattle.mq_rules.specs.Rules.{found_line, lines, line_of}
use Rattle.mq_rules.specs.Occasions.{applies}
use Rattle.mq_rules_tests.proofs.worked_places.places_of_order.Goals as goal

pub returns-clause-pubacks : goal.returns-clause-pubacks
unfolding gives_fate applies found_line lines line_of applies_O
returns-clause-pubacks c = refl

pub returns-clause-pubrecs : goal.returns-clause-pubrecs
unfolding gives_fate applies found_line lines line_of applies_O
returns-clause-pubrecs c = refl

pub returns-clause-pubrels : goal.returns-clause-pubrels
unfolding gives_fate applies found_line lines line_of applies_O
returns-clause-pubrels c = refl

pub returns-clause-one_after_the_other : goal.returns-clause-one_after_the_other
unfolding gives_fate applies found_line lines line_of applies_O
returns-clause-one_after_the_other c = refl

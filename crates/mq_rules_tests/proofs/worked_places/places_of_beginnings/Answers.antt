use Rattle.std.proofs.Common.{refl}
use Rattle.mq_rules.specs.Connections.{gives_fate}
use Rattle.mq_rules.specs.Pasts.{applies_C01, applies_C02, applies_C03, applies_C04, applies_C05, applies_C06}
use Rattle.mq_rules.specs.Rules.{found_line, lines, line_of}
use Rattle.mq_rules.specs.Occasions.{applies}
use Rattle.mq_rules_tests.proofs.worked_places.places_of_beginnings.Goals as goal

pub returns-clause-typed : goal.returns-clause-typed
unfolding gives_fate applies found_line lines line_of applies_C01
returns-clause-typed c = refl

pub returns-clause-first : goal.returns-clause-first
unfolding gives_fate applies found_line lines line_of applies_C02
returns-clause-first c = refl

pub returns-clause-connect : goal.returns-clause-connect
unfolding gives_fate applies found_line lines line_of applies_C03
returns-clause-connect c = refl

pub returns-clause-connack : goal.returns-clause-connack
unfolding gives_fate applies found_line lines line_of applies_C04
returns-clause-connack c = refl

pub returns-clause-before_connack : goal.returns-clause-before_connack
unfolding gives_fate applies found_line lines line_of applies_C05
returns-clause-before_connack c = refl

pub returns-clause-only_connack : goal.returns-clause-only_connack
unfolding gives_fate applies found_line lines line_of applies_C06
returns-clause-only_connack c = refl

use Rattle.std.proofs.Common.{refl}
use Rattle.mq_rules.specs.Rules.{found_line, lines, line_of}
use Rattle.mq_rules.specs.Connections.{gives_fate}
use Rattle.mq_rules.specs.Occasions.{applies}
use Rattle.mq_rules.specs.FurtherPasts.{applies_A01}
use Rattle.mq_rules_tests.proofs.worked_places.places_before_a_connack.Goals as goal

pub returns-clause-sent : goal.returns-clause-sent
unfolding gives_fate applies found_line lines line_of applies_A01
returns-clause-sent c = refl

pub returns-clause-answered : goal.returns-clause-answered
unfolding gives_fate applies found_line lines line_of applies_A01
returns-clause-answered c = refl

pub returns-clause-plain : goal.returns-clause-plain
unfolding gives_fate applies found_line lines line_of applies_A01
returns-clause-plain c = refl

pub returns-clause-unasked : goal.returns-clause-unasked
unfolding gives_fate applies found_line lines line_of applies_A01
returns-clause-unasked c = refl

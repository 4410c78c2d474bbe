use Rattle.std.proofs.Common.{refl}
use Rattle.mq_rules.specs.Rules.{found_line, lines, line_of}
use Rattle.mq_rules.specs.Occasions.{applies}
use Rattle.mq_rules.specs.FurtherPasts.{applies_A03}
use Rattle.mq_rules_tests.proofs.worked_places.places_of_one_method.Goals as goal
use Rattle.mq_rules.specs.Connections.{gives_fate}

pub returns-clause-sent : goal.returns-clause-sent
unfolding gives_fate applies found_line lines line_of applies_A03
returns-clause-sent c = refl

pub returns-clause-refused : goal.returns-clause-refused
unfolding gives_fate applies found_line lines line_of applies_A03
returns-clause-refused c = refl

pub returns-clause-accepted : goal.returns-clause-accepted
unfolding gives_fate applies found_line lines line_of applies_A03
returns-clause-accepted c = refl

pub returns-clause-without_method : goal.returns-clause-without_method
unfolding gives_fate applies found_line lines line_of applies_A03
returns-clause-without_method c = refl

pub returns-clause-unasked : goal.returns-clause-unasked
unfolding gives_fate applies found_line lines line_of applies_A03
returns-clause-unasked c = refl

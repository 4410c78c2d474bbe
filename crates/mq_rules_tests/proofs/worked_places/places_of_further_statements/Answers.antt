use Rattle.std.proofs.Common.{refl}
use Rattle.mq_rules.specs.Rules.{found_line, lines, line_of}
use Rattle.mq_rules.specs.Occasions.{applies}
use Rattle.mq_rules.specs.FurtherPasts.{applies_F05, applies_F06, applies_A02}
use Rattle.mq_rules_tests.proofs.worked_places.places_of_further_statements.Goals as goal
use Rattle.mq_rules.specs.Connections.{gives_fate}

pub returns-clause-will_qos : goal.returns-clause-will_qos
unfolding gives_fate applies found_line lines line_of applies_F05
returns-clause-will_qos c = refl

pub returns-clause-will_qos_refused : goal.returns-clause-will_qos_refused
unfolding gives_fate applies found_line lines line_of applies_F05
returns-clause-will_qos_refused c = refl

pub returns-clause-no_will : goal.returns-clause-no_will
unfolding gives_fate applies found_line lines line_of applies_F05
returns-clause-no_will c = refl

pub returns-clause-will_retain : goal.returns-clause-will_retain
unfolding gives_fate applies found_line lines line_of applies_F06
returns-clause-will_retain c = refl

pub returns-clause-will_retain_available : goal.returns-clause-will_retain_available
unfolding gives_fate applies found_line lines line_of applies_F06
returns-clause-will_retain_available c = refl

pub returns-clause-method : goal.returns-clause-method
unfolding gives_fate applies found_line lines line_of applies_A02
returns-clause-method c = refl

pub returns-clause-method_named : goal.returns-clause-method_named
unfolding gives_fate applies found_line lines line_of applies_A02
returns-clause-method_named c = refl

pub returns-clause-method_auth : goal.returns-clause-method_auth
unfolding gives_fate applies found_line lines line_of applies_A02
returns-clause-method_auth c = refl

pub returns-clause-unasked : goal.returns-clause-unasked
unfolding gives_fate applies found_line lines line_of applies_A02
returns-clause-unasked c = refl

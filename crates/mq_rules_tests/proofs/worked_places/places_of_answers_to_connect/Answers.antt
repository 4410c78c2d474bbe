use Rattle.std.proofs.Common.{refl}
use Rattle.mq_rules.specs.Connections.{gives_fate}
use Rattle.mq_rules.specs.Pasts.{applies_C07, applies_C08, applies_C09, applies_C10, applies_C21, applies_C22}
use Rattle.mq_rules.specs.Rules.{found_line, lines, line_of}
use Rattle.mq_rules.specs.Occasions.{applies}
use Rattle.mq_rules_tests.proofs.worked_places.places_of_answers_to_connect.Goals as goal

pub returns-clause-clean : goal.returns-clause-clean
unfolding gives_fate applies found_line lines line_of applies_C07
returns-clause-clean c = refl

pub returns-clause-alive : goal.returns-clause-alive
unfolding gives_fate applies found_line lines line_of applies_C08
returns-clause-alive c = refl

pub returns-clause-not_alive : goal.returns-clause-not_alive
unfolding gives_fate applies found_line lines line_of applies_C08
returns-clause-not_alive c = refl

pub returns-clause-refusal : goal.returns-clause-refusal
unfolding gives_fate applies found_line lines line_of applies_C09
returns-clause-refusal c = refl

pub returns-clause-no_refusal : goal.returns-clause-no_refusal
unfolding gives_fate applies found_line lines line_of applies_C09
returns-clause-no_refusal c = refl

pub returns-clause-assigned : goal.returns-clause-assigned
unfolding gives_fate applies found_line lines line_of applies_C10
returns-clause-assigned c = refl

pub returns-clause-named : goal.returns-clause-named
unfolding gives_fate applies found_line lines line_of applies_C10
returns-clause-named c = refl

pub returns-clause-unexplained : goal.returns-clause-unexplained
unfolding gives_fate applies found_line lines line_of applies_C21
returns-clause-unexplained c = refl

pub returns-clause-may_be_explained : goal.returns-clause-may_be_explained
unfolding gives_fate applies found_line lines line_of applies_C21
returns-clause-may_be_explained c = refl

pub returns-clause-informed : goal.returns-clause-informed
unfolding gives_fate applies found_line lines line_of applies_C22
returns-clause-informed c = refl

pub returns-clause-not_informed : goal.returns-clause-not_informed
unfolding gives_fate applies found_line lines line_of applies_C22
returns-clause-not_informed c = refl

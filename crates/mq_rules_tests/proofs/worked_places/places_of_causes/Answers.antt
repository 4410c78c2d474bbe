use Rattle.std.proofs.Common.{refl}
use Rattle.mq_rules.specs.Connections.{gives_fate, is_binding}
use Rattle.mq_rules.specs.Exchanges.{applies_E7R, applies_R}
use Rattle.mq_rules.specs.Rules.{found_line, lines, line_of}
use Rattle.mq_rules.specs.Occasions.{applies}
use Rattle.mq_rules_tests.proofs.worked_places.places_of_causes.Goals as goal

pub returns-clause-publish : goal.returns-clause-publish
unfolding gives_fate applies found_line lines line_of applies_R is_binding
returns-clause-publish c = refl

pub returns-clause-first_of_two : goal.returns-clause-first_of_two
unfolding gives_fate applies found_line lines line_of applies_R is_binding
returns-clause-first_of_two c = refl

pub returns-clause-not_at_rest : goal.returns-clause-not_at_rest
unfolding gives_fate applies found_line lines line_of applies_R is_binding
returns-clause-not_at_rest c = refl

pub returns-clause-publish_twice : goal.returns-clause-publish_twice
unfolding gives_fate applies found_line lines line_of applies_R is_binding
returns-clause-publish_twice c = refl

pub returns-clause-pubrec : goal.returns-clause-pubrec
unfolding gives_fate applies found_line lines line_of applies_R is_binding
returns-clause-pubrec c = refl

pub returns-clause-pubrel : goal.returns-clause-pubrel
unfolding gives_fate applies found_line lines line_of applies_R is_binding
returns-clause-pubrel c = refl

pub returns-clause-subscribe : goal.returns-clause-subscribe
unfolding gives_fate applies found_line lines line_of applies_R is_binding
returns-clause-subscribe c = refl

pub returns-clause-unsubscribe : goal.returns-clause-unsubscribe
unfolding gives_fate applies found_line lines line_of applies_R is_binding
returns-clause-unsubscribe c = refl

pub returns-clause-pingreq : goal.returns-clause-pingreq
unfolding gives_fate applies found_line lines line_of applies_E7R is_binding
returns-clause-pingreq c = refl

use Rattle.std.proofs.Common.{refl}
use Rattle.mq_rules.specs.Connections.{gives_fate}
use Rattle.mq_rules.specs.Exchanges.{applies_A}
use Rattle.mq_rules.specs.Rules.{found_line, lines, line_of}
use Rattle.mq_rules.specs.Occasions.{applies}
use Rattle.mq_rules_tests.proofs.worked_places.places_of_answers.Goals as goal

pub returns-clause-puback : goal.returns-clause-puback
unfolding gives_fate applies found_line lines line_of applies_A
returns-clause-puback c = refl

pub returns-clause-unknowing : goal.returns-clause-unknowing
unfolding gives_fate applies found_line lines line_of applies_A
returns-clause-unknowing c = refl

pub returns-clause-pubrec : goal.returns-clause-pubrec
unfolding gives_fate applies found_line lines line_of applies_A
returns-clause-pubrec c = refl

pub returns-clause-pubrel : goal.returns-clause-pubrel
unfolding gives_fate applies found_line lines line_of applies_A
returns-clause-pubrel c = refl

pub returns-clause-pubcomp : goal.returns-clause-pubcomp
unfolding gives_fate applies found_line lines line_of applies_A
returns-clause-pubcomp c = refl

pub returns-clause-suback : goal.returns-clause-suback
unfolding gives_fate applies found_line lines line_of applies_A
returns-clause-suback c = refl

pub returns-clause-unsuback : goal.returns-clause-unsuback
unfolding gives_fate applies found_line lines line_of applies_A
returns-clause-unsuback c = refl

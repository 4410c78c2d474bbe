use Rattle.std.proofs.Common.{refl}
use Rattle.mq_rules.specs.Connections.{gives_fate}
use Rattle.mq_rules.specs.Subscriptions.{applies_B01, applies_B02, applies_B03, applies_B04}
use Rattle.mq_rules.specs.Rules.{found_line, lines, line_of}
use Rattle.mq_rules.specs.Occasions.{applies}
use Rattle.mq_rules_tests.proofs.worked_places.places_of_subscriptions.Goals as goal

pub returns-clause-delivered : goal.returns-clause-delivered
unfolding gives_fate applies found_line lines line_of applies_B01
returns-clause-delivered c = refl

pub returns-clause-shared : goal.returns-clause-shared
unfolding gives_fate applies found_line lines line_of applies_B01
returns-clause-shared c = refl

pub returns-clause-no_topic : goal.returns-clause-no_topic
unfolding gives_fate applies found_line lines line_of applies_B01
returns-clause-no_topic c = refl

pub returns-clause-qos : goal.returns-clause-qos
unfolding gives_fate applies found_line lines line_of applies_B02
returns-clause-qos c = refl

pub returns-clause-suback : goal.returns-clause-suback
unfolding gives_fate applies found_line lines line_of applies_B03
returns-clause-suback c = refl

pub returns-clause-unsuback : goal.returns-clause-unsuback
unfolding gives_fate applies found_line lines line_of applies_B04
returns-clause-unsuback c = refl

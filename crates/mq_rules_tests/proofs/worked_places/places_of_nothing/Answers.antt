use Rattle.std.proofs.Common.{refl}
use Rattle.mq_rules.specs.Connections.{gives_fate}
use Rattle.mq_rules.specs.Pasts.{applies_C02}
use Rattle.mq_rules.specs.Exchanges.{applies_A}
use Rattle.mq_rules.specs.Releases.{applies_L1}
use Rattle.mq_rules.specs.Rules.{found_line, lines, line_of}
use Rattle.mq_rules.specs.Occasions.{applies}
use Rattle.mq_rules_tests.proofs.worked_places.places_of_nothing.Goals as goal

pub returns-clause-server_begins : goal.returns-clause-server_begins
unfolding gives_fate applies found_line lines line_of applies_C02
returns-clause-server_begins c = refl

pub returns-clause-client_answers : goal.returns-clause-client_answers
unfolding gives_fate applies found_line lines line_of applies_A
returns-clause-client_answers c = refl

pub returns-clause-unrecorded : goal.returns-clause-unrecorded
unfolding gives_fate applies found_line lines line_of applies_L1
returns-clause-unrecorded c = refl

pub returns-clause-undecided : goal.returns-clause-undecided
unfolding gives_fate applies found_line lines line_of applies_A
returns-clause-undecided c = refl

pub returns-clause-refused : goal.returns-clause-refused
unfolding gives_fate applies found_line lines line_of applies_A
returns-clause-refused c = refl

pub returns-clause-unknown : goal.returns-clause-unknown
unfolding gives_fate applies found_line lines line_of applies_A
returns-clause-unknown c = refl

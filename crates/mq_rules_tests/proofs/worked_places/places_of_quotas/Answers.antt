use Rattle.std.proofs.Common.{refl}
use Rattle.mq_rules.specs.Connections.{gives_fate}
use Rattle.mq_rules.specs.Identifiers.{applies_S07}
use Rattle.mq_rules.specs.Rules.{found_line, lines, line_of}
use Rattle.mq_rules.specs.Occasions.{applies}
use Rattle.mq_rules_tests.proofs.worked_places.places_of_quotas.Goals as goal

pub returns-clause-last : goal.returns-clause-last
unfolding gives_fate applies found_line lines line_of applies_S07
returns-clause-last c = refl

pub returns-clause-not_last : goal.returns-clause-not_last
unfolding gives_fate applies found_line lines line_of applies_S07
returns-clause-not_last c = refl

pub returns-clause-early : goal.returns-clause-early
unfolding gives_fate applies found_line lines line_of applies_S07
returns-clause-early c = refl

pub returns-clause-server_last : goal.returns-clause-server_last
unfolding gives_fate applies found_line lines line_of applies_S07
returns-clause-server_last c = refl

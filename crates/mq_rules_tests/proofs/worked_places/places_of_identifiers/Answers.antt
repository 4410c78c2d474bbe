use Rattle.std.proofs.Common.{refl}
use Rattle.mq_rules.specs.Connections.{gives_fate}
use Rattle.mq_rules.specs.Identifiers.{applies_S01}
use Rattle.mq_rules.specs.Rules.{found_line, lines, line_of}
use Rattle.mq_rules.specs.Occasions.{applies}
use Rattle.mq_rules_tests.proofs.worked_places.places_of_identifiers.Goals as goal

pub returns-clause-second : goal.returns-clause-second
unfolding gives_fate applies found_line lines line_of applies_S01
returns-clause-second c = refl

pub returns-clause-freed : goal.returns-clause-freed
unfolding gives_fate applies found_line lines line_of applies_S01
returns-clause-freed c = refl

pub returns-clause-subscribing : goal.returns-clause-subscribing
unfolding gives_fate applies found_line lines line_of applies_S01
returns-clause-subscribing c = refl

pub returns-clause-subscribed : goal.returns-clause-subscribed
unfolding gives_fate applies found_line lines line_of applies_S01
returns-clause-subscribed c = refl

pub returns-clause-server_second : goal.returns-clause-server_second
unfolding gives_fate applies found_line lines line_of applies_S01
returns-clause-server_second c = refl

pub returns-clause-early : goal.returns-clause-early
unfolding gives_fate applies found_line lines line_of applies_S01
returns-clause-early c = refl

pub returns-clause-early_unknowing : goal.returns-clause-early_unknowing
unfolding gives_fate applies found_line lines line_of applies_S01
returns-clause-early_unknowing c = refl

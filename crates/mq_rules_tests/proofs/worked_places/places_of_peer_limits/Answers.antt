use Rattle.std.proofs.Common.{refl}
use Rattle.mq_rules.specs.Connections.{gives_fate}
use Rattle.mq_rules.specs.Pasts.{applies_C14, applies_C15, applies_C16, applies_C17, applies_C18}
use Rattle.mq_rules.specs.Rules.{found_line, lines, line_of}
use Rattle.mq_rules.specs.Occasions.{applies}
use Rattle.mq_rules_tests.proofs.worked_places.places_of_peer_limits.Goals as goal

pub returns-clause-size : goal.returns-clause-size
unfolding gives_fate applies found_line lines line_of applies_C14
returns-clause-size c = refl

pub returns-clause-any_size : goal.returns-clause-any_size
unfolding gives_fate applies found_line lines line_of applies_C14
returns-clause-any_size c = refl

pub returns-clause-alias : goal.returns-clause-alias
unfolding gives_fate applies found_line lines line_of applies_C15
returns-clause-alias c = refl

pub returns-clause-no_alias : goal.returns-clause-no_alias
unfolding gives_fate applies found_line lines line_of applies_C15
returns-clause-no_alias c = refl

pub returns-clause-used_alias : goal.returns-clause-used_alias
unfolding gives_fate applies found_line lines line_of applies_C16
returns-clause-used_alias c = refl

pub returns-clause-qos : goal.returns-clause-qos
unfolding gives_fate applies found_line lines line_of applies_C17
returns-clause-qos c = refl

pub returns-clause-any_qos : goal.returns-clause-any_qos
unfolding gives_fate applies found_line lines line_of applies_C17
returns-clause-any_qos c = refl

pub returns-clause-publish : goal.returns-clause-publish
unfolding gives_fate applies found_line lines line_of applies_C18
returns-clause-publish c = refl

use Rattle.std.proofs.Common.{refl}
use Rattle.mq_rules.specs.Connections.{gives_fate}
use Rattle.mq_rules.specs.Pasts.{applies_C11, applies_C12, applies_C13, applies_C23}
use Rattle.mq_rules.specs.Rules.{found_line, lines, line_of}
use Rattle.mq_rules.specs.Occasions.{applies}
use Rattle.mq_rules_tests.proofs.worked_places.places_of_endings.Goals as goal

pub returns-clause-disconnected : goal.returns-clause-disconnected
unfolding gives_fate applies found_line lines line_of applies_C11
returns-clause-disconnected c = refl

pub returns-clause-not_disconnected : goal.returns-clause-not_disconnected
unfolding gives_fate applies found_line lines line_of applies_C11
returns-clause-not_disconnected c = refl

pub returns-clause-refused : goal.returns-clause-refused
unfolding gives_fate applies found_line lines line_of applies_C12
returns-clause-refused c = refl

pub returns-clause-not_refused : goal.returns-clause-not_refused
unfolding gives_fate applies found_line lines line_of applies_C12
returns-clause-not_refused c = refl

pub returns-clause-unknown : goal.returns-clause-unknown
unfolding gives_fate applies found_line lines line_of applies_C13
returns-clause-unknown c = refl

pub returns-clause-known : goal.returns-clause-known
unfolding gives_fate applies found_line lines line_of applies_C13
returns-clause-known c = refl

pub returns-clause-closed : goal.returns-clause-closed
unfolding gives_fate applies found_line lines line_of applies_C23
returns-clause-closed c = refl

pub returns-clause-closed_refused : goal.returns-clause-closed_refused
unfolding gives_fate applies found_line lines line_of applies_C23
returns-clause-closed_refused c = refl

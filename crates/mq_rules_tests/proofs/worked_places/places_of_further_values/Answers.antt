use Rattle.std.proofs.Common.{refl}
use Rattle.mq_rules.specs.Rules.{found_line, lines, line_of}
use Rattle.mq_rules.specs.Connections.{gives_fate}
use Rattle.mq_rules.specs.Occasions.{applies}
use Rattle.mq_rules.specs.FurtherPasts.{applies_F01, applies_F02, applies_F03, applies_F04, applies_V03, applies_V04, applies_V06}
use Rattle.mq_rules_tests.proofs.worked_places.places_of_further_values.Goals as goal

pub returns-clause-retain : goal.returns-clause-retain
unfolding gives_fate applies found_line lines line_of applies_F01
returns-clause-retain c = refl

pub returns-clause-retain_again : goal.returns-clause-retain_again
unfolding gives_fate applies found_line lines line_of applies_F01
returns-clause-retain_again c = refl

pub returns-clause-retain_unsaid : goal.returns-clause-retain_unsaid
unfolding gives_fate applies found_line lines line_of applies_F01
returns-clause-retain_unsaid c = refl

pub returns-clause-wildcard : goal.returns-clause-wildcard
unfolding gives_fate applies found_line lines line_of applies_F02
returns-clause-wildcard c = refl

pub returns-clause-wildcard_before : goal.returns-clause-wildcard_before
unfolding gives_fate applies found_line lines line_of applies_F02
returns-clause-wildcard_before c = refl

pub returns-clause-identifier : goal.returns-clause-identifier
unfolding gives_fate applies found_line lines line_of applies_F03
returns-clause-identifier c = refl

pub returns-clause-identifier_unsaid : goal.returns-clause-identifier_unsaid
unfolding gives_fate applies found_line lines line_of applies_F03
returns-clause-identifier_unsaid c = refl

pub returns-clause-share : goal.returns-clause-share
unfolding gives_fate applies found_line lines line_of applies_F04
returns-clause-share c = refl

pub returns-clause-share_unsaid : goal.returns-clause-share_unsaid
unfolding gives_fate applies found_line lines line_of applies_F04
returns-clause-share_unsaid c = refl

pub returns-clause-name : goal.returns-clause-name
unfolding gives_fate applies found_line lines line_of applies_V03
returns-clause-name c = refl

pub returns-clause-no_name : goal.returns-clause-no_name
unfolding gives_fate applies found_line lines line_of applies_V03
returns-clause-no_name c = refl

pub returns-clause-local : goal.returns-clause-local
unfolding gives_fate applies found_line lines line_of applies_V04
returns-clause-local c = refl

pub returns-clause-no_share : goal.returns-clause-no_share
unfolding gives_fate applies found_line lines line_of applies_V04
returns-clause-no_share c = refl

pub returns-clause-code : goal.returns-clause-code
unfolding gives_fate applies found_line lines line_of applies_V06
returns-clause-code c = refl

pub returns-clause-code_of_server : goal.returns-clause-code_of_server
unfolding gives_fate applies found_line lines line_of applies_V06
returns-clause-code_of_server c = refl

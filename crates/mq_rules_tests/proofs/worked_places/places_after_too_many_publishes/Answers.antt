use Rattle.std.proofs.Common.{refl}
use Rattle.mq_rules.specs.Rules.{found_line, lines, line_of}
use Rattle.mq_rules.specs.Connections.{gives_fate}
use Rattle.mq_rules.specs.Occasions.{applies}
use Rattle.mq_rules.specs.FurtherRests.{applies_D05}
use Rattle.mq_rules.specs.ReceiveMaximum.{unfinished}
use Rattle.mq_rules_tests.proofs.worked_places.places_after_too_many_publishes.Goals as goal

pub returns-clause-rested : goal.returns-clause-rested
unfolding gives_fate applies found_line lines line_of applies_D05 unfinished
returns-clause-rested c = refl

pub returns-clause-closed : goal.returns-clause-closed
unfolding gives_fate applies found_line lines line_of applies_D05 unfinished
returns-clause-closed c = refl

pub returns-clause-goodbye : goal.returns-clause-goodbye
unfolding gives_fate applies found_line lines line_of applies_D05 unfinished
returns-clause-goodbye c = refl

pub returns-clause-refused : goal.returns-clause-refused
unfolding gives_fate applies found_line lines line_of applies_D05 unfinished
returns-clause-refused c = refl

pub returns-clause-refused_and_closed : goal.returns-clause-refused_and_closed
unfolding gives_fate applies found_line lines line_of applies_D05 unfinished
returns-clause-refused_and_closed c = refl

pub returns-clause-refused_after_rest : goal.returns-clause-refused_after_rest
unfolding gives_fate applies found_line lines line_of applies_D05 unfinished
returns-clause-refused_after_rest c = refl

pub returns-clause-first_alone : goal.returns-clause-first_alone
unfolding gives_fate applies found_line lines line_of applies_D05 unfinished
returns-clause-first_alone c = refl

pub returns-clause-fitting : goal.returns-clause-fitting
unfolding gives_fate applies found_line lines line_of applies_D05 unfinished
returns-clause-fitting c = refl

pub returns-clause-once : goal.returns-clause-once
unfolding gives_fate applies found_line lines line_of applies_D05 unfinished
returns-clause-once c = refl

pub returns-clause-before_connack : goal.returns-clause-before_connack
unfolding gives_fate applies found_line lines line_of applies_D05 unfinished
returns-clause-before_connack c = refl

pub returns-clause-unseen : goal.returns-clause-unseen
unfolding gives_fate applies found_line lines line_of applies_D05 unfinished
returns-clause-unseen c = refl

pub returns-clause-anew : goal.returns-clause-anew
unfolding gives_fate applies found_line lines line_of applies_D05 unfinished
returns-clause-anew c = refl

pub returns-clause-left : goal.returns-clause-left
unfolding gives_fate applies found_line lines line_of applies_D05 unfinished
returns-clause-left c = refl

pub returns-clause-unasked : goal.returns-clause-unasked
unfolding gives_fate applies found_line lines line_of applies_D05 unfinished
returns-clause-unasked c = refl

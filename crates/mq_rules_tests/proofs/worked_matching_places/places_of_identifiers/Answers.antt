use Rattle.std.proofs.Common.{refl}
use Rattle.mq_topic.specs.Matching.{matches}
use Rattle.mq_rules.specs.Connections.{gives_fate}
use Rattle.mq_rules.specs.Rules.{found_line, lines, line_of}
use Rattle.mq_rules.specs.Occasions.{applies}
use Rattle.mq_rules.specs.MatchingSubscriptions.{applies_P01}
use Rattle.mq_rules_tests.proofs.worked_matching_places.places_of_identifiers.Goals as goal

pub returns-clause-own_and_foreign : goal.returns-clause-own_and_foreign
unfolding gives_fate applies found_line lines line_of applies_P01 matches
returns-clause-own_and_foreign c = refl

pub returns-clause-with_and_without : goal.returns-clause-with_and_without
unfolding gives_fate applies found_line lines line_of applies_P01 matches
returns-clause-with_and_without c = refl

pub returns-clause-several : goal.returns-clause-several
unfolding gives_fate applies found_line lines line_of applies_P01 matches
returns-clause-several c = refl

pub returns-clause-not_given : goal.returns-clause-not_given
unfolding gives_fate applies found_line lines line_of applies_P01 matches
returns-clause-not_given c = refl

pub returns-clause-none_matches : goal.returns-clause-none_matches
unfolding gives_fate applies found_line lines line_of applies_P01 matches
returns-clause-none_matches c = refl

pub returns-clause-never_subscribed : goal.returns-clause-never_subscribed
unfolding gives_fate applies found_line lines line_of applies_P01 matches
returns-clause-never_subscribed c = refl

pub returns-clause-unanswered : goal.returns-clause-unanswered
unfolding gives_fate applies found_line lines line_of applies_P01 matches
returns-clause-unanswered c = refl

pub returns-clause-refused : goal.returns-clause-refused
unfolding gives_fate applies found_line lines line_of applies_P01 matches
returns-clause-refused c = refl

pub returns-clause-unsubscribed : goal.returns-clause-unsubscribed
unfolding gives_fate applies found_line lines line_of applies_P01 matches
returns-clause-unsubscribed c = refl

pub returns-clause-shared : goal.returns-clause-shared
unfolding gives_fate applies found_line lines line_of applies_P01 matches
returns-clause-shared c = refl

pub returns-clause-lacking : goal.returns-clause-lacking
unfolding gives_fate applies found_line lines line_of applies_P01 matches
returns-clause-lacking c = refl

pub returns-clause-duplicate : goal.returns-clause-duplicate
unfolding gives_fate applies found_line lines line_of applies_P01 matches
returns-clause-duplicate c = refl

pub returns-clause-alias : goal.returns-clause-alias
unfolding gives_fate applies found_line lines line_of applies_P01 matches
returns-clause-alias c = refl

pub returns-clause-resumed : goal.returns-clause-resumed
unfolding gives_fate applies found_line lines line_of applies_P01 matches
returns-clause-resumed c = refl

pub returns-clause-new_session : goal.returns-clause-new_session
unfolding gives_fate applies found_line lines line_of applies_P01 matches
returns-clause-new_session c = refl

pub returns-clause-turned_away : goal.returns-clause-turned_away
unfolding gives_fate applies found_line lines line_of applies_P01 matches
returns-clause-turned_away c = refl

pub returns-clause-bad_subscribe : goal.returns-clause-bad_subscribe
unfolding gives_fate applies found_line lines line_of applies_P01 matches
returns-clause-bad_subscribe c = refl

pub returns-clause-lost : goal.returns-clause-lost
unfolding gives_fate applies found_line lines line_of applies_P01 matches
returns-clause-lost c = refl

pub returns-clause-unasked : goal.returns-clause-unasked
unfolding gives_fate applies found_line lines line_of applies_P01 matches
returns-clause-unasked c = refl

pub returns-clause-of_client : goal.returns-clause-of_client
unfolding gives_fate applies found_line lines line_of applies_P01 matches
returns-clause-of_client c = refl

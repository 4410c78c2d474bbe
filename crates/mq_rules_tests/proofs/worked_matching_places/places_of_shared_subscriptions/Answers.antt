use Rattle.std.proofs.Common.{refl}
use Rattle.mq_topic.specs.Matching.{matches}
use Rattle.mq_rules.specs.Connections.{gives_fate}
use Rattle.mq_rules.specs.Rules.{found_line, lines, line_of}
use Rattle.mq_rules.specs.Occasions.{applies}
use Rattle.mq_rules.specs.Subscriptions.{applies_B01, applies_B02}
use Rattle.mq_rules.specs.MatchingSubscriptions.{applies_B08, applies_B09}
use Rattle.mq_rules_tests.proofs.worked_matching_places.places_of_shared_subscriptions.Goals as goal

pub returns-clause-deliveries : goal.returns-clause-deliveries
unfolding gives_fate applies found_line lines line_of applies_B08 matches
returns-clause-deliveries c = refl

pub returns-clause-unanswered : goal.returns-clause-unanswered
unfolding gives_fate applies found_line lines line_of applies_B08 matches
returns-clause-unanswered c = refl

pub returns-clause-refused : goal.returns-clause-refused
unfolding gives_fate applies found_line lines line_of applies_B08 matches
returns-clause-refused c = refl

pub returns-clause-before : goal.returns-clause-before
unfolding gives_fate applies found_line lines line_of applies_B08 matches
returns-clause-before c = refl

pub returns-clause-ordinary : goal.returns-clause-ordinary
unfolding gives_fate applies found_line lines line_of applies_B08 matches
returns-clause-ordinary c = refl

pub returns-clause-ordinary_plainly : goal.returns-clause-ordinary_plainly
unfolding gives_fate applies found_line lines line_of applies_B01 matches
returns-clause-ordinary_plainly c = refl

pub returns-clause-shared_plainly : goal.returns-clause-shared_plainly
unfolding gives_fate applies found_line lines line_of applies_B01 matches
returns-clause-shared_plainly c = refl

pub returns-clause-word_alone : goal.returns-clause-word_alone
unfolding gives_fate applies found_line lines line_of applies_B08 matches
returns-clause-word_alone c = refl

pub returns-clause-no_name : goal.returns-clause-no_name
unfolding gives_fate applies found_line lines line_of applies_B08 matches
returns-clause-no_name c = refl

pub returns-clause-duplicate : goal.returns-clause-duplicate
unfolding gives_fate applies found_line lines line_of applies_B08 matches
returns-clause-duplicate c = refl

pub returns-clause-alias : goal.returns-clause-alias
unfolding gives_fate applies found_line lines line_of applies_B08 matches
returns-clause-alias c = refl

pub returns-clause-unsubscribed : goal.returns-clause-unsubscribed
unfolding gives_fate applies found_line lines line_of applies_B08 matches
returns-clause-unsubscribed c = refl

pub returns-clause-resumed : goal.returns-clause-resumed
unfolding gives_fate applies found_line lines line_of applies_B08 matches
returns-clause-resumed c = refl

pub returns-clause-new_session : goal.returns-clause-new_session
unfolding gives_fate applies found_line lines line_of applies_B08 matches
returns-clause-new_session c = refl

pub returns-clause-early : goal.returns-clause-early
unfolding gives_fate applies found_line lines line_of applies_B08 matches
returns-clause-early c = refl

pub returns-clause-turned_away : goal.returns-clause-turned_away
unfolding gives_fate applies found_line lines line_of applies_B08 matches
returns-clause-turned_away c = refl

pub returns-clause-disturbed : goal.returns-clause-disturbed
unfolding gives_fate applies found_line lines line_of applies_B08 matches
returns-clause-disturbed c = refl

pub returns-clause-bad_subscribe : goal.returns-clause-bad_subscribe
unfolding gives_fate applies found_line lines line_of applies_B08 matches
returns-clause-bad_subscribe c = refl

pub returns-clause-bad_unsubscribe : goal.returns-clause-bad_unsubscribe
unfolding gives_fate applies found_line lines line_of applies_B08 matches
returns-clause-bad_unsubscribe c = refl

pub returns-clause-bad_publish : goal.returns-clause-bad_publish
unfolding gives_fate applies found_line lines line_of applies_B08 matches
returns-clause-bad_publish c = refl

pub returns-clause-lost : goal.returns-clause-lost
unfolding gives_fate applies found_line lines line_of applies_B08 matches
returns-clause-lost c = refl

pub returns-clause-lost_on_void : goal.returns-clause-lost_on_void
unfolding gives_fate applies found_line lines line_of applies_B08 matches
returns-clause-lost_on_void c = refl

pub returns-clause-lost_in_session_before : goal.returns-clause-lost_in_session_before
unfolding gives_fate applies found_line lines line_of applies_B08 matches
returns-clause-lost_in_session_before c = refl

pub returns-clause-unasked : goal.returns-clause-unasked
unfolding gives_fate applies found_line lines line_of applies_B08 matches
returns-clause-unasked c = refl

pub returns-clause-of_client : goal.returns-clause-of_client
unfolding gives_fate applies found_line lines line_of applies_B08 matches
returns-clause-of_client c = refl

pub returns-clause-above : goal.returns-clause-above
unfolding gives_fate applies found_line lines line_of applies_B09 matches
returns-clause-above c = refl

pub returns-clause-exactly : goal.returns-clause-exactly
unfolding gives_fate applies found_line lines line_of applies_B09 matches
returns-clause-exactly c = refl

pub returns-clause-at_most_once : goal.returns-clause-at_most_once
unfolding gives_fate applies found_line lines line_of applies_B09 matches
returns-clause-at_most_once c = refl

pub returns-clause-none_matches : goal.returns-clause-none_matches
unfolding gives_fate applies found_line lines line_of applies_B09 matches
returns-clause-none_matches c = refl

pub returns-clause-ordinary_qos : goal.returns-clause-ordinary_qos
unfolding gives_fate applies found_line lines line_of applies_B09 matches
returns-clause-ordinary_qos c = refl

pub returns-clause-ordinary_qos_plainly : goal.returns-clause-ordinary_qos_plainly
unfolding gives_fate applies found_line lines line_of applies_B02 matches
returns-clause-ordinary_qos_plainly c = refl

pub returns-clause-duplicate_qos : goal.returns-clause-duplicate_qos
unfolding gives_fate applies found_line lines line_of applies_B09 matches
returns-clause-duplicate_qos c = refl

pub returns-clause-resumed_qos : goal.returns-clause-resumed_qos
unfolding gives_fate applies found_line lines line_of applies_B09 matches
returns-clause-resumed_qos c = refl

pub returns-clause-bad_subscribe_qos : goal.returns-clause-bad_subscribe_qos
unfolding gives_fate applies found_line lines line_of applies_B09 matches
returns-clause-bad_subscribe_qos c = refl

pub returns-clause-unasked_qos : goal.returns-clause-unasked_qos
unfolding gives_fate applies found_line lines line_of applies_B09 matches
returns-clause-unasked_qos c = refl

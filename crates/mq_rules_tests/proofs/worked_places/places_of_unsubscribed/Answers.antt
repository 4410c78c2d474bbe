use Rattle.std.proofs.Common.{refl}
use Rattle.mq_rules.specs.Connections.{gives_fate}
use Rattle.mq_rules.specs.FurtherSubscriptions.{applies_B06, applies_B07}
use Rattle.mq_rules.specs.Rules.{found_line, lines, line_of}
use Rattle.mq_rules.specs.Occasions.{applies}
use Rattle.mq_rules_tests.proofs.worked_places.places_of_unsubscribed.Goals as goal

pub returns-clause-denied : goal.returns-clause-denied
unfolding gives_fate applies found_line lines line_of applies_B06
returns-clause-denied c = refl

pub returns-clause-removed : goal.returns-clause-removed
unfolding gives_fate applies found_line lines line_of applies_B06
returns-clause-removed c = refl

pub returns-clause-failed : goal.returns-clause-failed
unfolding gives_fate applies found_line lines line_of applies_B06
returns-clause-failed c = refl

pub returns-clause-not_answered : goal.returns-clause-not_answered
unfolding gives_fate applies found_line lines line_of applies_B06
returns-clause-not_answered c = refl

pub returns-clause-refused : goal.returns-clause-refused
unfolding gives_fate applies found_line lines line_of applies_B06
returns-clause-refused c = refl

pub returns-clause-removed_before : goal.returns-clause-removed_before
unfolding gives_fate applies found_line lines line_of applies_B06
returns-clause-removed_before c = refl

pub returns-clause-subscribed_again : goal.returns-clause-subscribed_again
unfolding gives_fate applies found_line lines line_of applies_B06
returns-clause-subscribed_again c = refl

pub returns-clause-first_place : goal.returns-clause-first_place
unfolding gives_fate applies found_line lines line_of applies_B06
returns-clause-first_place c = refl

pub returns-clause-not_first_place : goal.returns-clause-not_first_place
unfolding gives_fate applies found_line lines line_of applies_B06
returns-clause-not_first_place c = refl

pub returns-clause-second_filter : goal.returns-clause-second_filter
unfolding gives_fate applies found_line lines line_of applies_B06
returns-clause-second_filter c = refl

pub returns-clause-second_failed : goal.returns-clause-second_failed
unfolding gives_fate applies found_line lines line_of applies_B06
returns-clause-second_failed c = refl

pub returns-clause-without_code : goal.returns-clause-without_code
unfolding gives_fate applies found_line lines line_of applies_B06
returns-clause-without_code c = refl

pub returns-clause-granted_last : goal.returns-clause-granted_last
unfolding gives_fate applies found_line lines line_of applies_B06
returns-clause-granted_last c = refl

pub returns-clause-granted_first : goal.returns-clause-granted_first
unfolding gives_fate applies found_line lines line_of applies_B06
returns-clause-granted_first c = refl

pub returns-clause-first_answer : goal.returns-clause-first_answer
unfolding gives_fate applies found_line lines line_of applies_B06
returns-clause-first_answer c = refl

pub returns-clause-unknown_identifier : goal.returns-clause-unknown_identifier
unfolding gives_fate applies found_line lines line_of applies_B06
returns-clause-unknown_identifier c = refl

pub returns-clause-overtaken : goal.returns-clause-overtaken
unfolding gives_fate applies found_line lines line_of applies_B06
returns-clause-overtaken c = refl

pub returns-clause-in_use : goal.returns-clause-in_use
unfolding gives_fate applies found_line lines line_of applies_B06
returns-clause-in_use c = refl

pub returns-clause-in_new_session : goal.returns-clause-in_new_session
unfolding gives_fate applies found_line lines line_of applies_B06
returns-clause-in_new_session c = refl

pub returns-clause-in_resumed_session : goal.returns-clause-in_resumed_session
unfolding gives_fate applies found_line lines line_of applies_B06
returns-clause-in_resumed_session c = refl

pub returns-clause-on_next_connection : goal.returns-clause-on_next_connection
unfolding gives_fate applies found_line lines line_of applies_B06
returns-clause-on_next_connection c = refl

pub returns-clause-early : goal.returns-clause-early
unfolding gives_fate applies found_line lines line_of applies_B06
returns-clause-early c = refl

pub returns-clause-turned_away : goal.returns-clause-turned_away
unfolding gives_fate applies found_line lines line_of applies_B06
returns-clause-turned_away c = refl

pub returns-clause-bad_subscribe : goal.returns-clause-bad_subscribe
unfolding gives_fate applies found_line lines line_of applies_B06
returns-clause-bad_subscribe c = refl

pub returns-clause-bad_unsubscribe_before : goal.returns-clause-bad_unsubscribe_before
unfolding gives_fate applies found_line lines line_of applies_B06
returns-clause-bad_unsubscribe_before c = refl

pub returns-clause-bad_publish : goal.returns-clause-bad_publish
unfolding gives_fate applies found_line lines line_of applies_B06
returns-clause-bad_publish c = refl

pub returns-clause-bad_unsubscribe_on_void : goal.returns-clause-bad_unsubscribe_on_void
unfolding gives_fate applies found_line lines line_of applies_B06
returns-clause-bad_unsubscribe_on_void c = refl

pub returns-clause-lost : goal.returns-clause-lost
unfolding gives_fate applies found_line lines line_of applies_B06
returns-clause-lost c = refl

pub returns-clause-lost_in_session_before : goal.returns-clause-lost_in_session_before
unfolding gives_fate applies found_line lines line_of applies_B06
returns-clause-lost_in_session_before c = refl

pub returns-clause-unasked : goal.returns-clause-unasked
unfolding gives_fate applies found_line lines line_of applies_B06
returns-clause-unasked c = refl

pub returns-clause-of_client : goal.returns-clause-of_client
unfolding gives_fate applies found_line lines line_of applies_B06
returns-clause-of_client c = refl

pub returns-clause-deleted_never_subscribed : goal.returns-clause-deleted_never_subscribed
unfolding gives_fate applies found_line lines line_of applies_B07
returns-clause-deleted_never_subscribed c = refl

pub returns-clause-denied_never_subscribed : goal.returns-clause-denied_never_subscribed
unfolding gives_fate applies found_line lines line_of applies_B07
returns-clause-denied_never_subscribed c = refl

pub returns-clause-failed_never_subscribed : goal.returns-clause-failed_never_subscribed
unfolding gives_fate applies found_line lines line_of applies_B07
returns-clause-failed_never_subscribed c = refl

pub returns-clause-deleted_subscribed : goal.returns-clause-deleted_subscribed
unfolding gives_fate applies found_line lines line_of applies_B07
returns-clause-deleted_subscribed c = refl

pub returns-clause-denied_subscribed : goal.returns-clause-denied_subscribed
unfolding gives_fate applies found_line lines line_of applies_B07
returns-clause-denied_subscribed c = refl

pub returns-clause-deleted_waiting : goal.returns-clause-deleted_waiting
unfolding gives_fate applies found_line lines line_of applies_B07
returns-clause-deleted_waiting c = refl

pub returns-clause-denied_waiting : goal.returns-clause-denied_waiting
unfolding gives_fate applies found_line lines line_of applies_B07
returns-clause-denied_waiting c = refl

pub returns-clause-denied_refused : goal.returns-clause-denied_refused
unfolding gives_fate applies found_line lines line_of applies_B07
returns-clause-denied_refused c = refl

pub returns-clause-denied_refused_after : goal.returns-clause-denied_refused_after
unfolding gives_fate applies found_line lines line_of applies_B07
returns-clause-denied_refused_after c = refl

pub returns-clause-denied_again : goal.returns-clause-denied_again
unfolding gives_fate applies found_line lines line_of applies_B07
returns-clause-denied_again c = refl

pub returns-clause-deleted_again : goal.returns-clause-deleted_again
unfolding gives_fate applies found_line lines line_of applies_B07
returns-clause-deleted_again c = refl

pub returns-clause-one_of_both : goal.returns-clause-one_of_both
unfolding gives_fate applies found_line lines line_of applies_B07
returns-clause-one_of_both c = refl

pub returns-clause-none_of_both : goal.returns-clause-none_of_both
unfolding gives_fate applies found_line lines line_of applies_B07
returns-clause-none_of_both c = refl

pub returns-clause-too_few_codes : goal.returns-clause-too_few_codes
unfolding gives_fate applies found_line lines line_of applies_B07
returns-clause-too_few_codes c = refl

pub returns-clause-answered_once : goal.returns-clause-answered_once
unfolding gives_fate applies found_line lines line_of applies_B07
returns-clause-answered_once c = refl

pub returns-clause-answer_to_none : goal.returns-clause-answer_to_none
unfolding gives_fate applies found_line lines line_of applies_B07
returns-clause-answer_to_none c = refl

pub returns-clause-denied_in_use : goal.returns-clause-denied_in_use
unfolding gives_fate applies found_line lines line_of applies_B07
returns-clause-denied_in_use c = refl

pub returns-clause-denied_anew : goal.returns-clause-denied_anew
unfolding gives_fate applies found_line lines line_of applies_B07
returns-clause-denied_anew c = refl

pub returns-clause-denied_resumed : goal.returns-clause-denied_resumed
unfolding gives_fate applies found_line lines line_of applies_B07
returns-clause-denied_resumed c = refl

pub returns-clause-deleted_resumed : goal.returns-clause-deleted_resumed
unfolding gives_fate applies found_line lines line_of applies_B07
returns-clause-deleted_resumed c = refl

pub returns-clause-before_connack : goal.returns-clause-before_connack
unfolding gives_fate applies found_line lines line_of applies_B07
returns-clause-before_connack c = refl

pub returns-clause-not_accepted : goal.returns-clause-not_accepted
unfolding gives_fate applies found_line lines line_of applies_B07
returns-clause-not_accepted c = refl

pub returns-clause-unreadable_subscribe : goal.returns-clause-unreadable_subscribe
unfolding gives_fate applies found_line lines line_of applies_B07
returns-clause-unreadable_subscribe c = refl

pub returns-clause-unreadable_unsubscribe : goal.returns-clause-unreadable_unsubscribe
unfolding gives_fate applies found_line lines line_of applies_B07
returns-clause-unreadable_unsubscribe c = refl

pub returns-clause-unreadable_stream : goal.returns-clause-unreadable_stream
unfolding gives_fate applies found_line lines line_of applies_B07
returns-clause-unreadable_stream c = refl

pub returns-clause-unreadable_publish : goal.returns-clause-unreadable_publish
unfolding gives_fate applies found_line lines line_of applies_B07
returns-clause-unreadable_publish c = refl

pub returns-clause-unreadable_after : goal.returns-clause-unreadable_after
unfolding gives_fate applies found_line lines line_of applies_B07
returns-clause-unreadable_after c = refl

pub returns-clause-unreadable_earlier : goal.returns-clause-unreadable_earlier
unfolding gives_fate applies found_line lines line_of applies_B07
returns-clause-unreadable_earlier c = refl

pub returns-clause-unreadable_void : goal.returns-clause-unreadable_void
unfolding gives_fate applies found_line lines line_of applies_B07
returns-clause-unreadable_void c = refl

pub returns-clause-unreadable_session : goal.returns-clause-unreadable_session
unfolding gives_fate applies found_line lines line_of applies_B07
returns-clause-unreadable_session c = refl

pub returns-clause-not_asked : goal.returns-clause-not_asked
unfolding gives_fate applies found_line lines line_of applies_B07
returns-clause-not_asked c = refl

pub returns-clause-client : goal.returns-clause-client
unfolding gives_fate applies found_line lines line_of applies_B07
returns-clause-client c = refl

use Rattle.std.proofs.Common.{refl}
use Rattle.mq_rules.specs.Connections.{gives_fate}
use Rattle.mq_rules.specs.Rules.{found_line, lines, line_of}
use Rattle.mq_rules.specs.Statements.{fails}
use Rattle.mq_rules.specs.FurtherSubscriptions.{breaks_B06, breaks_B07}
use Rattle.mq_rules_tests.proofs.worked.unsubscribed.Goals as goal

pub returns-clause-denied_breaks : goal.returns-clause-denied_breaks
unfolding gives_fate fails found_line lines line_of breaks_B06
returns-clause-denied_breaks c = refl

pub returns-clause-removed_keeps : goal.returns-clause-removed_keeps
unfolding gives_fate fails found_line lines line_of breaks_B06
returns-clause-removed_keeps c = refl

pub returns-clause-unanswered_keeps : goal.returns-clause-unanswered_keeps
unfolding gives_fate fails found_line lines line_of breaks_B06
returns-clause-unanswered_keeps c = refl

pub returns-clause-answered_after_keeps : goal.returns-clause-answered_after_keeps
unfolding gives_fate fails found_line lines line_of breaks_B06
returns-clause-answered_after_keeps c = refl

pub returns-clause-refused_keeps : goal.returns-clause-refused_keeps
unfolding gives_fate fails found_line lines line_of breaks_B06
returns-clause-refused_keeps c = refl

pub returns-clause-removed_before_keeps : goal.returns-clause-removed_before_keeps
unfolding gives_fate fails found_line lines line_of breaks_B06
returns-clause-removed_before_keeps c = refl

pub returns-clause-asked_to_remove_before_keeps : goal.returns-clause-asked_to_remove_before_keeps
unfolding gives_fate fails found_line lines line_of breaks_B06
returns-clause-asked_to_remove_before_keeps c = refl

pub returns-clause-subscribed_again_breaks : goal.returns-clause-subscribed_again_breaks
unfolding gives_fate fails found_line lines line_of breaks_B06
returns-clause-subscribed_again_breaks c = refl

pub returns-clause-asked_again_keeps : goal.returns-clause-asked_again_keeps
unfolding gives_fate fails found_line lines line_of breaks_B06
returns-clause-asked_again_keeps c = refl

pub returns-clause-twice_keeps : goal.returns-clause-twice_keeps
unfolding gives_fate fails found_line lines line_of breaks_B06
returns-clause-twice_keeps c = refl

pub returns-clause-twice_breaks : goal.returns-clause-twice_breaks
unfolding gives_fate fails found_line lines line_of breaks_B06
returns-clause-twice_breaks c = refl

pub returns-clause-twice_exchanged_breaks : goal.returns-clause-twice_exchanged_breaks
unfolding gives_fate fails found_line lines line_of breaks_B06
returns-clause-twice_exchanged_breaks c = refl

pub returns-clause-last_code_breaks : goal.returns-clause-last_code_breaks
unfolding gives_fate fails found_line lines line_of breaks_B06
returns-clause-last_code_breaks c = refl

pub returns-clause-last_code_keeps : goal.returns-clause-last_code_keeps
unfolding gives_fate fails found_line lines line_of breaks_B06
returns-clause-last_code_keeps c = refl

pub returns-clause-only_code_breaks : goal.returns-clause-only_code_breaks
unfolding gives_fate fails found_line lines line_of breaks_B06
returns-clause-only_code_breaks c = refl

pub returns-clause-other_filter_keeps : goal.returns-clause-other_filter_keeps
unfolding gives_fate fails found_line lines line_of breaks_B06
returns-clause-other_filter_keeps c = refl

pub returns-clause-second_breaks : goal.returns-clause-second_breaks
unfolding gives_fate fails found_line lines line_of breaks_B06
returns-clause-second_breaks c = refl

pub returns-clause-second_keeps : goal.returns-clause-second_keeps
unfolding gives_fate fails found_line lines line_of breaks_B06
returns-clause-second_keeps c = refl

pub returns-clause-few_codes_keep : goal.returns-clause-few_codes_keep
unfolding gives_fate fails found_line lines line_of breaks_B06
returns-clause-few_codes_keep c = refl

pub returns-clause-many_codes_keep : goal.returns-clause-many_codes_keep
unfolding gives_fate fails found_line lines line_of breaks_B06
returns-clause-many_codes_keep c = refl

pub returns-clause-failed_keeps : goal.returns-clause-failed_keeps
unfolding gives_fate fails found_line lines line_of breaks_B06
returns-clause-failed_keeps c = refl

pub returns-clause-other_identifier_keeps : goal.returns-clause-other_identifier_keeps
unfolding gives_fate fails found_line lines line_of breaks_B06
returns-clause-other_identifier_keeps c = refl

pub returns-clause-first_request_keeps : goal.returns-clause-first_request_keeps
unfolding gives_fate fails found_line lines line_of breaks_B06
returns-clause-first_request_keeps c = refl

pub returns-clause-next_request_breaks : goal.returns-clause-next_request_breaks
unfolding gives_fate fails found_line lines line_of breaks_B06
returns-clause-next_request_breaks c = refl

pub returns-clause-new_session_keeps : goal.returns-clause-new_session_keeps
unfolding gives_fate fails found_line lines line_of breaks_B06
returns-clause-new_session_keeps c = refl

pub returns-clause-resumed_breaks : goal.returns-clause-resumed_breaks
unfolding gives_fate fails found_line lines line_of breaks_B06
returns-clause-resumed_breaks c = refl

pub returns-clause-later_keeps : goal.returns-clause-later_keeps
unfolding gives_fate fails found_line lines line_of breaks_B06
returns-clause-later_keeps c = refl

pub returns-clause-disturbed_keeps : goal.returns-clause-disturbed_keeps
unfolding gives_fate fails found_line lines line_of breaks_B06
returns-clause-disturbed_keeps c = refl

pub returns-clause-early_breaks : goal.returns-clause-early_breaks
unfolding gives_fate fails found_line lines line_of breaks_B06
returns-clause-early_breaks c = refl

pub returns-clause-turned_away_keeps : goal.returns-clause-turned_away_keeps
unfolding gives_fate fails found_line lines line_of breaks_B06
returns-clause-turned_away_keeps c = refl

pub returns-clause-void_keeps : goal.returns-clause-void_keeps
unfolding gives_fate fails found_line lines line_of breaks_B06
returns-clause-void_keeps c = refl

pub returns-clause-bad_subscribe_keeps : goal.returns-clause-bad_subscribe_keeps
unfolding gives_fate fails found_line lines line_of breaks_B06
returns-clause-bad_subscribe_keeps c = refl

pub returns-clause-bad_unsubscribe_keeps : goal.returns-clause-bad_unsubscribe_keeps
unfolding gives_fate fails found_line lines line_of breaks_B06
returns-clause-bad_unsubscribe_keeps c = refl

pub returns-clause-lost_keeps : goal.returns-clause-lost_keeps
unfolding gives_fate fails found_line lines line_of breaks_B06
returns-clause-lost_keeps c = refl

pub returns-clause-bad_publish_breaks : goal.returns-clause-bad_publish_breaks
unfolding gives_fate fails found_line lines line_of breaks_B06
returns-clause-bad_publish_breaks c = refl

pub returns-clause-bad_after_breaks : goal.returns-clause-bad_after_breaks
unfolding gives_fate fails found_line lines line_of breaks_B06
returns-clause-bad_after_breaks c = refl

pub returns-clause-bad_before_keeps : goal.returns-clause-bad_before_keeps
unfolding gives_fate fails found_line lines line_of breaks_B06
returns-clause-bad_before_keeps c = refl

pub returns-clause-bad_session_before_breaks : goal.returns-clause-bad_session_before_breaks
unfolding gives_fate fails found_line lines line_of breaks_B06
returns-clause-bad_session_before_breaks c = refl

pub returns-clause-lost_session_before_breaks : goal.returns-clause-lost_session_before_breaks
unfolding gives_fate fails found_line lines line_of breaks_B06
returns-clause-lost_session_before_breaks c = refl

pub returns-clause-bad_void_keeps : goal.returns-clause-bad_void_keeps
unfolding gives_fate fails found_line lines line_of breaks_B06
returns-clause-bad_void_keeps c = refl

pub returns-clause-lost_void_keeps : goal.returns-clause-lost_void_keeps
unfolding gives_fate fails found_line lines line_of breaks_B06
returns-clause-lost_void_keeps c = refl

pub returns-clause-bad_void_before_breaks : goal.returns-clause-bad_void_before_breaks
unfolding gives_fate fails found_line lines line_of breaks_B06
returns-clause-bad_void_before_breaks c = refl

pub returns-clause-overtaken_keeps : goal.returns-clause-overtaken_keeps
unfolding gives_fate fails found_line lines line_of breaks_B06
returns-clause-overtaken_keeps c = refl

pub returns-clause-asked_between_keeps : goal.returns-clause-asked_between_keeps
unfolding gives_fate fails found_line lines line_of breaks_B06
returns-clause-asked_between_keeps c = refl

pub returns-clause-in_use_breaks : goal.returns-clause-in_use_breaks
unfolding gives_fate fails found_line lines line_of breaks_B06
returns-clause-in_use_breaks c = refl

pub returns-clause-in_use_keeps : goal.returns-clause-in_use_keeps
unfolding gives_fate fails found_line lines line_of breaks_B06
returns-clause-in_use_keeps c = refl

pub returns-clause-unasked_keeps : goal.returns-clause-unasked_keeps
unfolding gives_fate fails found_line lines line_of breaks_B06
returns-clause-unasked_keeps c = refl

pub returns-clause-client_keeps : goal.returns-clause-client_keeps
unfolding gives_fate fails found_line lines line_of breaks_B06
returns-clause-client_keeps c = refl

pub returns-clause-deleted_breaks : goal.returns-clause-deleted_breaks
unfolding gives_fate fails found_line lines line_of breaks_B07
returns-clause-deleted_breaks c = refl

pub returns-clause-denied_keeps : goal.returns-clause-denied_keeps
unfolding gives_fate fails found_line lines line_of breaks_B07
returns-clause-denied_keeps c = refl

pub returns-clause-subscribed_keeps : goal.returns-clause-subscribed_keeps
unfolding gives_fate fails found_line lines line_of breaks_B07
returns-clause-subscribed_keeps c = refl

pub returns-clause-waiting_keeps : goal.returns-clause-waiting_keeps
unfolding gives_fate fails found_line lines line_of breaks_B07
returns-clause-waiting_keeps c = refl

pub returns-clause-granted_after_keeps : goal.returns-clause-granted_after_keeps
unfolding gives_fate fails found_line lines line_of breaks_B07
returns-clause-granted_after_keeps c = refl

pub returns-clause-refused_breaks : goal.returns-clause-refused_breaks
unfolding gives_fate fails found_line lines line_of breaks_B07
returns-clause-refused_breaks c = refl

pub returns-clause-refused_after_breaks : goal.returns-clause-refused_after_breaks
unfolding gives_fate fails found_line lines line_of breaks_B07
returns-clause-refused_after_breaks c = refl

pub returns-clause-refused_late_keeps : goal.returns-clause-refused_late_keeps
unfolding gives_fate fails found_line lines line_of breaks_B07
returns-clause-refused_late_keeps c = refl

pub returns-clause-refused_again_keeps : goal.returns-clause-refused_again_keeps
unfolding gives_fate fails found_line lines line_of breaks_B07
returns-clause-refused_again_keeps c = refl

pub returns-clause-deleted_again_keeps : goal.returns-clause-deleted_again_keeps
unfolding gives_fate fails found_line lines line_of breaks_B07
returns-clause-deleted_again_keeps c = refl

pub returns-clause-deleted_twice_keeps : goal.returns-clause-deleted_twice_keeps
unfolding gives_fate fails found_line lines line_of breaks_B07
returns-clause-deleted_twice_keeps c = refl

pub returns-clause-denied_and_deleted_breaks : goal.returns-clause-denied_and_deleted_breaks
unfolding gives_fate fails found_line lines line_of breaks_B07
returns-clause-denied_and_deleted_breaks c = refl

pub returns-clause-granted_second_keeps : goal.returns-clause-granted_second_keeps
unfolding gives_fate fails found_line lines line_of breaks_B07
returns-clause-granted_second_keeps c = refl

pub returns-clause-granted_first_keeps : goal.returns-clause-granted_first_keeps
unfolding gives_fate fails found_line lines line_of breaks_B07
returns-clause-granted_first_keeps c = refl

pub returns-clause-refused_twice_breaks : goal.returns-clause-refused_twice_breaks
unfolding gives_fate fails found_line lines line_of breaks_B07
returns-clause-refused_twice_breaks c = refl

pub returns-clause-other_filter_breaks : goal.returns-clause-other_filter_breaks
unfolding gives_fate fails found_line lines line_of breaks_B07
returns-clause-other_filter_breaks c = refl

pub returns-clause-both_break : goal.returns-clause-both_break
unfolding gives_fate fails found_line lines line_of breaks_B07
returns-clause-both_break c = refl

pub returns-clause-in_order_keeps : goal.returns-clause-in_order_keeps
unfolding gives_fate fails found_line lines line_of breaks_B07
returns-clause-in_order_keeps c = refl

pub returns-clause-exchanged_breaks : goal.returns-clause-exchanged_breaks
unfolding gives_fate fails found_line lines line_of breaks_B07
returns-clause-exchanged_breaks c = refl

pub returns-clause-too_few_codes_keep : goal.returns-clause-too_few_codes_keep
unfolding gives_fate fails found_line lines line_of breaks_B07
returns-clause-too_few_codes_keep c = refl

pub returns-clause-too_many_codes_keep : goal.returns-clause-too_many_codes_keep
unfolding gives_fate fails found_line lines line_of breaks_B07
returns-clause-too_many_codes_keep c = refl

pub returns-clause-answer_to_none_keeps : goal.returns-clause-answer_to_none_keeps
unfolding gives_fate fails found_line lines line_of breaks_B07
returns-clause-answer_to_none_keeps c = refl

pub returns-clause-first_of_two_keeps : goal.returns-clause-first_of_two_keeps
unfolding gives_fate fails found_line lines line_of breaks_B07
returns-clause-first_of_two_keeps c = refl

pub returns-clause-subscribed_between_keeps : goal.returns-clause-subscribed_between_keeps
unfolding gives_fate fails found_line lines line_of breaks_B07
returns-clause-subscribed_between_keeps c = refl

pub returns-clause-subscribed_after_breaks : goal.returns-clause-subscribed_after_breaks
unfolding gives_fate fails found_line lines line_of breaks_B07
returns-clause-subscribed_after_breaks c = refl

pub returns-clause-begun_anew_breaks : goal.returns-clause-begun_anew_breaks
unfolding gives_fate fails found_line lines line_of breaks_B07
returns-clause-begun_anew_breaks c = refl

pub returns-clause-taken_up_keeps : goal.returns-clause-taken_up_keeps
unfolding gives_fate fails found_line lines line_of breaks_B07
returns-clause-taken_up_keeps c = refl

pub returns-clause-taken_up_breaks : goal.returns-clause-taken_up_breaks
unfolding gives_fate fails found_line lines line_of breaks_B07
returns-clause-taken_up_breaks c = refl

pub returns-clause-before_connack_breaks : goal.returns-clause-before_connack_breaks
unfolding gives_fate fails found_line lines line_of breaks_B07
returns-clause-before_connack_breaks c = refl

pub returns-clause-not_accepted_keeps : goal.returns-clause-not_accepted_keeps
unfolding gives_fate fails found_line lines line_of breaks_B07
returns-clause-not_accepted_keeps c = refl

pub returns-clause-void_breaks : goal.returns-clause-void_breaks
unfolding gives_fate fails found_line lines line_of breaks_B07
returns-clause-void_breaks c = refl

pub returns-clause-unreadable_keeps : goal.returns-clause-unreadable_keeps
unfolding gives_fate fails found_line lines line_of breaks_B07
returns-clause-unreadable_keeps c = refl

pub returns-clause-unreadable_unsubscribe_keeps : goal.returns-clause-unreadable_unsubscribe_keeps
unfolding gives_fate fails found_line lines line_of breaks_B07
returns-clause-unreadable_unsubscribe_keeps c = refl

pub returns-clause-unreadable_stream_keeps : goal.returns-clause-unreadable_stream_keeps
unfolding gives_fate fails found_line lines line_of breaks_B07
returns-clause-unreadable_stream_keeps c = refl

pub returns-clause-readable_breaks : goal.returns-clause-readable_breaks
unfolding gives_fate fails found_line lines line_of breaks_B07
returns-clause-readable_breaks c = refl

pub returns-clause-unreadable_after_breaks : goal.returns-clause-unreadable_after_breaks
unfolding gives_fate fails found_line lines line_of breaks_B07
returns-clause-unreadable_after_breaks c = refl

pub returns-clause-unreadable_earlier_keeps : goal.returns-clause-unreadable_earlier_keeps
unfolding gives_fate fails found_line lines line_of breaks_B07
returns-clause-unreadable_earlier_keeps c = refl

pub returns-clause-unreadable_session_breaks : goal.returns-clause-unreadable_session_breaks
unfolding gives_fate fails found_line lines line_of breaks_B07
returns-clause-unreadable_session_breaks c = refl

pub returns-clause-unreadable_void_keeps : goal.returns-clause-unreadable_void_keeps
unfolding gives_fate fails found_line lines line_of breaks_B07
returns-clause-unreadable_void_keeps c = refl

pub returns-clause-unreadable_refused_keeps : goal.returns-clause-unreadable_refused_keeps
unfolding gives_fate fails found_line lines line_of breaks_B07
returns-clause-unreadable_refused_keeps c = refl

pub returns-clause-in_use_refused_breaks : goal.returns-clause-in_use_refused_breaks
unfolding gives_fate fails found_line lines line_of breaks_B07
returns-clause-in_use_refused_breaks c = refl

pub returns-clause-in_use_granted_keeps : goal.returns-clause-in_use_granted_keeps
unfolding gives_fate fails found_line lines line_of breaks_B07
returns-clause-in_use_granted_keeps c = refl

pub returns-clause-not_asked_keeps : goal.returns-clause-not_asked_keeps
unfolding gives_fate fails found_line lines line_of breaks_B07
returns-clause-not_asked_keeps c = refl

pub returns-clause-of_client_keeps : goal.returns-clause-of_client_keeps
unfolding gives_fate fails found_line lines line_of breaks_B07
returns-clause-of_client_keeps c = refl

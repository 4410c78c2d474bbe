use Rattle.std.proofs.Common.{refl}
use Rattle.mq_topic.specs.Matching.{matches}
use Rattle.mq_rules.specs.Connections.{gives_fate}
use Rattle.mq_rules.specs.Rules.{found_line, lines, line_of}
use Rattle.mq_rules.specs.Statements.{fails}
use Rattle.mq_rules.specs.Subscriptions.{breaks_B01}
use Rattle.mq_rules.specs.MatchingSubscriptions.{breaks_B08}
use Rattle.mq_rules_tests.proofs.worked_matching.shared_subscriptions.Goals as goal

pub returns-clause-other_topic_breaks : goal.returns-clause-other_topic_breaks
unfolding gives_fate fails found_line lines line_of breaks_B08 matches
returns-clause-other_topic_breaks c = refl

pub returns-clause-alone_keeps : goal.returns-clause-alone_keeps
unfolding gives_fate fails found_line lines line_of breaks_B08 matches
returns-clause-alone_keeps c = refl

pub returns-clause-qos_breaks : goal.returns-clause-qos_breaks
unfolding gives_fate fails found_line lines line_of breaks_B08 matches
returns-clause-qos_breaks c = refl

pub returns-clause-unanswered_keeps : goal.returns-clause-unanswered_keeps
unfolding gives_fate fails found_line lines line_of breaks_B08 matches
returns-clause-unanswered_keeps c = refl

pub returns-clause-unanswered_breaks : goal.returns-clause-unanswered_breaks
unfolding gives_fate fails found_line lines line_of breaks_B08 matches
returns-clause-unanswered_breaks c = refl

pub returns-clause-refused_breaks : goal.returns-clause-refused_breaks
unfolding gives_fate fails found_line lines line_of breaks_B08 matches
returns-clause-refused_breaks c = refl

pub returns-clause-least_refusal_breaks : goal.returns-clause-least_refusal_breaks
unfolding gives_fate fails found_line lines line_of breaks_B08 matches
returns-clause-least_refusal_breaks c = refl

pub returns-clause-refused_later_keeps : goal.returns-clause-refused_later_keeps
unfolding gives_fate fails found_line lines line_of breaks_B08 matches
returns-clause-refused_later_keeps c = refl

pub returns-clause-refused_since_breaks : goal.returns-clause-refused_since_breaks
unfolding gives_fate fails found_line lines line_of breaks_B08 matches
returns-clause-refused_since_breaks c = refl

pub returns-clause-beside_keeps : goal.returns-clause-beside_keeps
unfolding gives_fate fails found_line lines line_of breaks_B08 matches
returns-clause-beside_keeps c = refl

pub returns-clause-beside_unanswered_keeps : goal.returns-clause-beside_unanswered_keeps
unfolding gives_fate fails found_line lines line_of breaks_B08 matches
returns-clause-beside_unanswered_keeps c = refl

pub returns-clause-beside_refused_breaks : goal.returns-clause-beside_refused_breaks
unfolding gives_fate fails found_line lines line_of breaks_B08 matches
returns-clause-beside_refused_breaks c = refl

pub returns-clause-refused_beside_keeps : goal.returns-clause-refused_beside_keeps
unfolding gives_fate fails found_line lines line_of breaks_B08 matches
returns-clause-refused_beside_keeps c = refl

pub returns-clause-refused_beside_breaks : goal.returns-clause-refused_beside_breaks
unfolding gives_fate fails found_line lines line_of breaks_B08 matches
returns-clause-refused_beside_breaks c = refl

pub returns-clause-same_filter_keeps : goal.returns-clause-same_filter_keeps
unfolding gives_fate fails found_line lines line_of breaks_B08 matches
returns-clause-same_filter_keeps c = refl

pub returns-clause-other_share_keeps : goal.returns-clause-other_share_keeps
unfolding gives_fate fails found_line lines line_of breaks_B08 matches
returns-clause-other_share_keeps c = refl

pub returns-clause-wildcard_keeps : goal.returns-clause-wildcard_keeps
unfolding gives_fate fails found_line lines line_of breaks_B08 matches
returns-clause-wildcard_keeps c = refl

pub returns-clause-parent_keeps : goal.returns-clause-parent_keeps
unfolding gives_fate fails found_line lines line_of breaks_B08 matches
returns-clause-parent_keeps c = refl

pub returns-clause-level_keeps : goal.returns-clause-level_keeps
unfolding gives_fate fails found_line lines line_of breaks_B08 matches
returns-clause-level_keeps c = refl

pub returns-clause-levels_break : goal.returns-clause-levels_break
unfolding gives_fate fails found_line lines line_of breaks_B08 matches
returns-clause-levels_break c = refl

pub returns-clause-dollar_breaks : goal.returns-clause-dollar_breaks
unfolding gives_fate fails found_line lines line_of breaks_B08 matches
returns-clause-dollar_breaks c = refl

pub returns-clause-dollar_keeps : goal.returns-clause-dollar_keeps
unfolding gives_fate fails found_line lines line_of breaks_B08 matches
returns-clause-dollar_keeps c = refl

pub returns-clause-share_name_breaks : goal.returns-clause-share_name_breaks
unfolding gives_fate fails found_line lines line_of breaks_B08 matches
returns-clause-share_name_breaks c = refl

pub returns-clause-own_text_keeps : goal.returns-clause-own_text_keeps
unfolding gives_fate fails found_line lines line_of breaks_B08 matches
returns-clause-own_text_keeps c = refl

pub returns-clause-other_text_breaks : goal.returns-clause-other_text_breaks
unfolding gives_fate fails found_line lines line_of breaks_B08 matches
returns-clause-other_text_breaks c = refl

pub returns-clause-slash_keeps : goal.returns-clause-slash_keeps
unfolding gives_fate fails found_line lines line_of breaks_B08 matches
returns-clause-slash_keeps c = refl

pub returns-clause-slash_breaks : goal.returns-clause-slash_breaks
unfolding gives_fate fails found_line lines line_of breaks_B08 matches
returns-clause-slash_breaks c = refl

pub returns-clause-no_name_keeps : goal.returns-clause-no_name_keeps
unfolding gives_fate fails found_line lines line_of breaks_B08 matches
returns-clause-no_name_keeps c = refl

pub returns-clause-no_filter_breaks : goal.returns-clause-no_filter_breaks
unfolding gives_fate fails found_line lines line_of breaks_B08 matches
returns-clause-no_filter_breaks c = refl

pub returns-clause-no_filter_keeps : goal.returns-clause-no_filter_keeps
unfolding gives_fate fails found_line lines line_of breaks_B08 matches
returns-clause-no_filter_keeps c = refl

pub returns-clause-word_alone_keeps : goal.returns-clause-word_alone_keeps
unfolding gives_fate fails found_line lines line_of breaks_B08 matches
returns-clause-word_alone_keeps c = refl

pub returns-clause-word_alone_breaks : goal.returns-clause-word_alone_breaks
unfolding gives_fate fails found_line lines line_of breaks_B01 matches
returns-clause-word_alone_breaks c = refl

pub returns-clause-ordinary_keeps : goal.returns-clause-ordinary_keeps
unfolding gives_fate fails found_line lines line_of breaks_B08 matches
returns-clause-ordinary_keeps c = refl

pub returns-clause-ordinary_breaks : goal.returns-clause-ordinary_breaks
unfolding gives_fate fails found_line lines line_of breaks_B01 matches
returns-clause-ordinary_breaks c = refl

pub returns-clause-shared_keeps : goal.returns-clause-shared_keeps
unfolding gives_fate fails found_line lines line_of breaks_B01 matches
returns-clause-shared_keeps c = refl

pub returns-clause-shared_later_keeps : goal.returns-clause-shared_later_keeps
unfolding gives_fate fails found_line lines line_of breaks_B08 matches
returns-clause-shared_later_keeps c = refl

pub returns-clause-shared_later_breaks : goal.returns-clause-shared_later_breaks
unfolding gives_fate fails found_line lines line_of breaks_B01 matches
returns-clause-shared_later_breaks c = refl

pub returns-clause-second_refused_breaks : goal.returns-clause-second_refused_breaks
unfolding gives_fate fails found_line lines line_of breaks_B08 matches
returns-clause-second_refused_breaks c = refl

pub returns-clause-second_granted_keeps : goal.returns-clause-second_granted_keeps
unfolding gives_fate fails found_line lines line_of breaks_B08 matches
returns-clause-second_granted_keeps c = refl

pub returns-clause-first_refused_breaks : goal.returns-clause-first_refused_breaks
unfolding gives_fate fails found_line lines line_of breaks_B08 matches
returns-clause-first_refused_breaks c = refl

pub returns-clause-few_codes_keep : goal.returns-clause-few_codes_keep
unfolding gives_fate fails found_line lines line_of breaks_B08 matches
returns-clause-few_codes_keep c = refl

pub returns-clause-no_codes_keep : goal.returns-clause-no_codes_keep
unfolding gives_fate fails found_line lines line_of breaks_B08 matches
returns-clause-no_codes_keep c = refl

pub returns-clause-many_codes_keep : goal.returns-clause-many_codes_keep
unfolding gives_fate fails found_line lines line_of breaks_B08 matches
returns-clause-many_codes_keep c = refl

pub returns-clause-unsubscribed_keeps : goal.returns-clause-unsubscribed_keeps
unfolding gives_fate fails found_line lines line_of breaks_B08 matches
returns-clause-unsubscribed_keeps c = refl

pub returns-clause-subscribed_again_keeps : goal.returns-clause-subscribed_again_keeps
unfolding gives_fate fails found_line lines line_of breaks_B08 matches
returns-clause-subscribed_again_keeps c = refl

pub returns-clause-duplicate_keeps : goal.returns-clause-duplicate_keeps
unfolding gives_fate fails found_line lines line_of breaks_B08 matches
returns-clause-duplicate_keeps c = refl

pub returns-clause-alias_breaks : goal.returns-clause-alias_breaks
unfolding gives_fate fails found_line lines line_of breaks_B08 matches
returns-clause-alias_breaks c = refl

pub returns-clause-alias_keeps : goal.returns-clause-alias_keeps
unfolding gives_fate fails found_line lines line_of breaks_B08 matches
returns-clause-alias_keeps c = refl

pub returns-clause-alias_set_anew_keeps : goal.returns-clause-alias_set_anew_keeps
unfolding gives_fate fails found_line lines line_of breaks_B08 matches
returns-clause-alias_set_anew_keeps c = refl

pub returns-clause-other_alias_breaks : goal.returns-clause-other_alias_breaks
unfolding gives_fate fails found_line lines line_of breaks_B08 matches
returns-clause-other_alias_breaks c = refl

pub returns-clause-unknown_alias_keeps : goal.returns-clause-unknown_alias_keeps
unfolding gives_fate fails found_line lines line_of breaks_B08 matches
returns-clause-unknown_alias_keeps c = refl

pub returns-clause-forgotten_alias_keeps : goal.returns-clause-forgotten_alias_keeps
unfolding gives_fate fails found_line lines line_of breaks_B08 matches
returns-clause-forgotten_alias_keeps c = refl

pub returns-clause-resumed_keeps : goal.returns-clause-resumed_keeps
unfolding gives_fate fails found_line lines line_of breaks_B08 matches
returns-clause-resumed_keeps c = refl

pub returns-clause-resumed_breaks : goal.returns-clause-resumed_breaks
unfolding gives_fate fails found_line lines line_of breaks_B08 matches
returns-clause-resumed_breaks c = refl

pub returns-clause-new_session_breaks : goal.returns-clause-new_session_breaks
unfolding gives_fate fails found_line lines line_of breaks_B08 matches
returns-clause-new_session_breaks c = refl

pub returns-clause-new_session_keeps : goal.returns-clause-new_session_keeps
unfolding gives_fate fails found_line lines line_of breaks_B08 matches
returns-clause-new_session_keeps c = refl

pub returns-clause-new_session_breaks_plainly : goal.returns-clause-new_session_breaks_plainly
unfolding gives_fate fails found_line lines line_of breaks_B01 matches
returns-clause-new_session_breaks_plainly c = refl

pub returns-clause-late_suback_keeps : goal.returns-clause-late_suback_keeps
unfolding gives_fate fails found_line lines line_of breaks_B08 matches
returns-clause-late_suback_keeps c = refl

pub returns-clause-other_identifier_keeps : goal.returns-clause-other_identifier_keeps
unfolding gives_fate fails found_line lines line_of breaks_B08 matches
returns-clause-other_identifier_keeps c = refl

pub returns-clause-in_use_breaks : goal.returns-clause-in_use_breaks
unfolding gives_fate fails found_line lines line_of breaks_B08 matches
returns-clause-in_use_breaks c = refl

pub returns-clause-in_use_keeps : goal.returns-clause-in_use_keeps
unfolding gives_fate fails found_line lines line_of breaks_B08 matches
returns-clause-in_use_keeps c = refl

pub returns-clause-early_keeps : goal.returns-clause-early_keeps
unfolding gives_fate fails found_line lines line_of breaks_B08 matches
returns-clause-early_keeps c = refl

pub returns-clause-early_subscribe_breaks : goal.returns-clause-early_subscribe_breaks
unfolding gives_fate fails found_line lines line_of breaks_B08 matches
returns-clause-early_subscribe_breaks c = refl

pub returns-clause-early_breaks : goal.returns-clause-early_breaks
unfolding gives_fate fails found_line lines line_of breaks_B08 matches
returns-clause-early_breaks c = refl

pub returns-clause-turned_away_keeps : goal.returns-clause-turned_away_keeps
unfolding gives_fate fails found_line lines line_of breaks_B08 matches
returns-clause-turned_away_keeps c = refl

pub returns-clause-void_breaks : goal.returns-clause-void_breaks
unfolding gives_fate fails found_line lines line_of breaks_B08 matches
returns-clause-void_breaks c = refl

pub returns-clause-disturbed_keeps : goal.returns-clause-disturbed_keeps
unfolding gives_fate fails found_line lines line_of breaks_B08 matches
returns-clause-disturbed_keeps c = refl

pub returns-clause-bad_subscribe_keeps : goal.returns-clause-bad_subscribe_keeps
unfolding gives_fate fails found_line lines line_of breaks_B08 matches
returns-clause-bad_subscribe_keeps c = refl

pub returns-clause-bad_unsubscribe_keeps : goal.returns-clause-bad_unsubscribe_keeps
unfolding gives_fate fails found_line lines line_of breaks_B08 matches
returns-clause-bad_unsubscribe_keeps c = refl

pub returns-clause-lost_keeps : goal.returns-clause-lost_keeps
unfolding gives_fate fails found_line lines line_of breaks_B08 matches
returns-clause-lost_keeps c = refl

pub returns-clause-bad_publish_breaks : goal.returns-clause-bad_publish_breaks
unfolding gives_fate fails found_line lines line_of breaks_B08 matches
returns-clause-bad_publish_breaks c = refl

pub returns-clause-bad_after_breaks : goal.returns-clause-bad_after_breaks
unfolding gives_fate fails found_line lines line_of breaks_B08 matches
returns-clause-bad_after_breaks c = refl

pub returns-clause-bad_before_keeps : goal.returns-clause-bad_before_keeps
unfolding gives_fate fails found_line lines line_of breaks_B08 matches
returns-clause-bad_before_keeps c = refl

pub returns-clause-bad_session_before_breaks : goal.returns-clause-bad_session_before_breaks
unfolding gives_fate fails found_line lines line_of breaks_B08 matches
returns-clause-bad_session_before_breaks c = refl

pub returns-clause-bad_void_keeps : goal.returns-clause-bad_void_keeps
unfolding gives_fate fails found_line lines line_of breaks_B08 matches
returns-clause-bad_void_keeps c = refl

pub returns-clause-bad_refused_keeps : goal.returns-clause-bad_refused_keeps
unfolding gives_fate fails found_line lines line_of breaks_B08 matches
returns-clause-bad_refused_keeps c = refl

pub returns-clause-unasked_keeps : goal.returns-clause-unasked_keeps
unfolding gives_fate fails found_line lines line_of breaks_B08 matches
returns-clause-unasked_keeps c = refl

pub returns-clause-client_keeps : goal.returns-clause-client_keeps
unfolding gives_fate fails found_line lines line_of breaks_B08 matches
returns-clause-client_keeps c = refl

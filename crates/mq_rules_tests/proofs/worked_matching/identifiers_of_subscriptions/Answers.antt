use Rattle.std.proofs.Common.{refl}
use Rattle.mq_topic.specs.Matching.{matches}
use Rattle.mq_rules.specs.Connections.{gives_fate}
use Rattle.mq_rules.specs.Rules.{found_line, lines, line_of}
use Rattle.mq_rules.specs.Statements.{fails}
use Rattle.mq_rules.specs.Subscriptions.{breaks_B01}
use Rattle.mq_rules.specs.MatchingSubscriptions.{breaks_P01}
use Rattle.mq_rules_tests.proofs.worked_matching.identifiers_of_subscriptions.Goals as goal

pub returns-clause-own_keeps : goal.returns-clause-own_keeps
unfolding gives_fate fails found_line lines line_of breaks_P01 matches
returns-clause-own_keeps c = refl

pub returns-clause-foreign_breaks : goal.returns-clause-foreign_breaks
unfolding gives_fate fails found_line lines line_of breaks_P01 matches
returns-clause-foreign_breaks c = refl

pub returns-clause-not_given_breaks : goal.returns-clause-not_given_breaks
unfolding gives_fate fails found_line lines line_of breaks_P01 matches
returns-clause-not_given_breaks c = refl

pub returns-clause-none_keeps : goal.returns-clause-none_keeps
unfolding gives_fate fails found_line lines line_of breaks_P01 matches
returns-clause-none_keeps c = refl

pub returns-clause-other_topic_breaks : goal.returns-clause-other_topic_breaks
unfolding gives_fate fails found_line lines line_of breaks_P01 matches
returns-clause-other_topic_breaks c = refl

pub returns-clause-other_topic_named_breaks : goal.returns-clause-other_topic_named_breaks
unfolding gives_fate fails found_line lines line_of breaks_P01 matches
returns-clause-other_topic_named_breaks c = refl

pub returns-clause-second_foreign_breaks : goal.returns-clause-second_foreign_breaks
unfolding gives_fate fails found_line lines line_of breaks_P01 matches
returns-clause-second_foreign_breaks c = refl

pub returns-clause-first_foreign_breaks : goal.returns-clause-first_foreign_breaks
unfolding gives_fate fails found_line lines line_of breaks_P01 matches
returns-clause-first_foreign_breaks c = refl

pub returns-clause-both_keep : goal.returns-clause-both_keep
unfolding gives_fate fails found_line lines line_of breaks_P01 matches
returns-clause-both_keep c = refl

pub returns-clause-one_of_both_keeps : goal.returns-clause-one_of_both_keeps
unfolding gives_fate fails found_line lines line_of breaks_P01 matches
returns-clause-one_of_both_keeps c = refl

pub returns-clause-third_breaks : goal.returns-clause-third_breaks
unfolding gives_fate fails found_line lines line_of breaks_P01 matches
returns-clause-third_breaks c = refl

pub returns-clause-twice_keeps : goal.returns-clause-twice_keeps
unfolding gives_fate fails found_line lines line_of breaks_P01 matches
returns-clause-twice_keeps c = refl

pub returns-clause-same_for_two_keeps : goal.returns-clause-same_for_two_keeps
unfolding gives_fate fails found_line lines line_of breaks_P01 matches
returns-clause-same_for_two_keeps c = refl

pub returns-clause-overlapping_without_keeps : goal.returns-clause-overlapping_without_keeps
unfolding gives_fate fails found_line lines line_of breaks_P01 matches
returns-clause-overlapping_without_keeps c = refl

pub returns-clause-overlapping_without_breaks : goal.returns-clause-overlapping_without_breaks
unfolding gives_fate fails found_line lines line_of breaks_P01 matches
returns-clause-overlapping_without_breaks c = refl

pub returns-clause-qos_breaks : goal.returns-clause-qos_breaks
unfolding gives_fate fails found_line lines line_of breaks_P01 matches
returns-clause-qos_breaks c = refl

pub returns-clause-qos_keeps : goal.returns-clause-qos_keeps
unfolding gives_fate fails found_line lines line_of breaks_P01 matches
returns-clause-qos_keeps c = refl

pub returns-clause-above_granted_keeps : goal.returns-clause-above_granted_keeps
unfolding gives_fate fails found_line lines line_of breaks_P01 matches
returns-clause-above_granted_keeps c = refl

pub returns-clause-none_matches_keeps : goal.returns-clause-none_matches_keeps
unfolding gives_fate fails found_line lines line_of breaks_P01 matches
returns-clause-none_matches_keeps c = refl

pub returns-clause-none_matches_breaks_plainly : goal.returns-clause-none_matches_breaks_plainly
unfolding gives_fate fails found_line lines line_of breaks_B01 matches
returns-clause-none_matches_breaks_plainly c = refl

pub returns-clause-never_subscribed_keeps : goal.returns-clause-never_subscribed_keeps
unfolding gives_fate fails found_line lines line_of breaks_P01 matches
returns-clause-never_subscribed_keeps c = refl

pub returns-clause-replaced_without_keeps : goal.returns-clause-replaced_without_keeps
unfolding gives_fate fails found_line lines line_of breaks_P01 matches
returns-clause-replaced_without_keeps c = refl

pub returns-clause-replaced_with_other_keeps : goal.returns-clause-replaced_with_other_keeps
unfolding gives_fate fails found_line lines line_of breaks_P01 matches
returns-clause-replaced_with_other_keeps c = refl

pub returns-clause-replaced_with_other_breaks : goal.returns-clause-replaced_with_other_breaks
unfolding gives_fate fails found_line lines line_of breaks_P01 matches
returns-clause-replaced_with_other_breaks c = refl

pub returns-clause-before_replaced_breaks : goal.returns-clause-before_replaced_breaks
unfolding gives_fate fails found_line lines line_of breaks_P01 matches
returns-clause-before_replaced_breaks c = refl

pub returns-clause-unsubscribed_keeps : goal.returns-clause-unsubscribed_keeps
unfolding gives_fate fails found_line lines line_of breaks_P01 matches
returns-clause-unsubscribed_keeps c = refl

pub returns-clause-subscribed_anew_keeps : goal.returns-clause-subscribed_anew_keeps
unfolding gives_fate fails found_line lines line_of breaks_P01 matches
returns-clause-subscribed_anew_keeps c = refl

pub returns-clause-unsubscribed_breaks : goal.returns-clause-unsubscribed_breaks
unfolding gives_fate fails found_line lines line_of breaks_P01 matches
returns-clause-unsubscribed_breaks c = refl

pub returns-clause-refused_breaks : goal.returns-clause-refused_breaks
unfolding gives_fate fails found_line lines line_of breaks_P01 matches
returns-clause-refused_breaks c = refl

pub returns-clause-refused_alone_keeps : goal.returns-clause-refused_alone_keeps
unfolding gives_fate fails found_line lines line_of breaks_P01 matches
returns-clause-refused_alone_keeps c = refl

pub returns-clause-refused_other_keeps : goal.returns-clause-refused_other_keeps
unfolding gives_fate fails found_line lines line_of breaks_P01 matches
returns-clause-refused_other_keeps c = refl

pub returns-clause-refused_other_breaks : goal.returns-clause-refused_other_breaks
unfolding gives_fate fails found_line lines line_of breaks_P01 matches
returns-clause-refused_other_breaks c = refl

pub returns-clause-refused_since_breaks : goal.returns-clause-refused_since_breaks
unfolding gives_fate fails found_line lines line_of breaks_P01 matches
returns-clause-refused_since_breaks c = refl

pub returns-clause-unanswered_keeps : goal.returns-clause-unanswered_keeps
unfolding gives_fate fails found_line lines line_of breaks_P01 matches
returns-clause-unanswered_keeps c = refl

pub returns-clause-unanswered_breaks : goal.returns-clause-unanswered_breaks
unfolding gives_fate fails found_line lines line_of breaks_P01 matches
returns-clause-unanswered_breaks c = refl

pub returns-clause-beside_unanswered_keeps : goal.returns-clause-beside_unanswered_keeps
unfolding gives_fate fails found_line lines line_of breaks_P01 matches
returns-clause-beside_unanswered_keeps c = refl

pub returns-clause-given_to_both_keeps : goal.returns-clause-given_to_both_keeps
unfolding gives_fate fails found_line lines line_of breaks_P01 matches
returns-clause-given_to_both_keeps c = refl

pub returns-clause-one_refused_breaks : goal.returns-clause-one_refused_breaks
unfolding gives_fate fails found_line lines line_of breaks_P01 matches
returns-clause-one_refused_breaks c = refl

pub returns-clause-few_codes_break : goal.returns-clause-few_codes_break
unfolding gives_fate fails found_line lines line_of breaks_P01 matches
returns-clause-few_codes_break c = refl

pub returns-clause-wildcard_keeps : goal.returns-clause-wildcard_keeps
unfolding gives_fate fails found_line lines line_of breaks_P01 matches
returns-clause-wildcard_keeps c = refl

pub returns-clause-wildcard_breaks : goal.returns-clause-wildcard_breaks
unfolding gives_fate fails found_line lines line_of breaks_P01 matches
returns-clause-wildcard_breaks c = refl

pub returns-clause-dollar_breaks : goal.returns-clause-dollar_breaks
unfolding gives_fate fails found_line lines line_of breaks_P01 matches
returns-clause-dollar_breaks c = refl

pub returns-clause-dollar_keeps : goal.returns-clause-dollar_keeps
unfolding gives_fate fails found_line lines line_of breaks_P01 matches
returns-clause-dollar_keeps c = refl

pub returns-clause-shared_keeps : goal.returns-clause-shared_keeps
unfolding gives_fate fails found_line lines line_of breaks_P01 matches
returns-clause-shared_keeps c = refl

pub returns-clause-shared_breaks : goal.returns-clause-shared_breaks
unfolding gives_fate fails found_line lines line_of breaks_P01 matches
returns-clause-shared_breaks c = refl

pub returns-clause-shared_beside_keeps : goal.returns-clause-shared_beside_keeps
unfolding gives_fate fails found_line lines line_of breaks_P01 matches
returns-clause-shared_beside_keeps c = refl

pub returns-clause-shared_beside_breaks : goal.returns-clause-shared_beside_breaks
unfolding gives_fate fails found_line lines line_of breaks_P01 matches
returns-clause-shared_beside_breaks c = refl

pub returns-clause-two_shares_keep : goal.returns-clause-two_shares_keep
unfolding gives_fate fails found_line lines line_of breaks_P01 matches
returns-clause-two_shares_keep c = refl

pub returns-clause-own_text_keeps : goal.returns-clause-own_text_keeps
unfolding gives_fate fails found_line lines line_of breaks_P01 matches
returns-clause-own_text_keeps c = refl

pub returns-clause-lacking_keeps : goal.returns-clause-lacking_keeps
unfolding gives_fate fails found_line lines line_of breaks_P01 matches
returns-clause-lacking_keeps c = refl

pub returns-clause-lacking_breaks : goal.returns-clause-lacking_breaks
unfolding gives_fate fails found_line lines line_of breaks_P01 matches
returns-clause-lacking_breaks c = refl

pub returns-clause-duplicate_keeps : goal.returns-clause-duplicate_keeps
unfolding gives_fate fails found_line lines line_of breaks_P01 matches
returns-clause-duplicate_keeps c = refl

pub returns-clause-alias_breaks : goal.returns-clause-alias_breaks
unfolding gives_fate fails found_line lines line_of breaks_P01 matches
returns-clause-alias_breaks c = refl

pub returns-clause-alias_keeps : goal.returns-clause-alias_keeps
unfolding gives_fate fails found_line lines line_of breaks_P01 matches
returns-clause-alias_keeps c = refl

pub returns-clause-other_alias_breaks : goal.returns-clause-other_alias_breaks
unfolding gives_fate fails found_line lines line_of breaks_P01 matches
returns-clause-other_alias_breaks c = refl

pub returns-clause-unknown_alias_keeps : goal.returns-clause-unknown_alias_keeps
unfolding gives_fate fails found_line lines line_of breaks_P01 matches
returns-clause-unknown_alias_keeps c = refl

pub returns-clause-in_use_breaks : goal.returns-clause-in_use_breaks
unfolding gives_fate fails found_line lines line_of breaks_P01 matches
returns-clause-in_use_breaks c = refl

pub returns-clause-in_use_keeps : goal.returns-clause-in_use_keeps
unfolding gives_fate fails found_line lines line_of breaks_P01 matches
returns-clause-in_use_keeps c = refl

pub returns-clause-resumed_keeps : goal.returns-clause-resumed_keeps
unfolding gives_fate fails found_line lines line_of breaks_P01 matches
returns-clause-resumed_keeps c = refl

pub returns-clause-resumed_breaks : goal.returns-clause-resumed_breaks
unfolding gives_fate fails found_line lines line_of breaks_P01 matches
returns-clause-resumed_breaks c = refl

pub returns-clause-resumed_replaced_keeps : goal.returns-clause-resumed_replaced_keeps
unfolding gives_fate fails found_line lines line_of breaks_P01 matches
returns-clause-resumed_replaced_keeps c = refl

pub returns-clause-new_session_breaks : goal.returns-clause-new_session_breaks
unfolding gives_fate fails found_line lines line_of breaks_P01 matches
returns-clause-new_session_breaks c = refl

pub returns-clause-new_session_keeps : goal.returns-clause-new_session_keeps
unfolding gives_fate fails found_line lines line_of breaks_P01 matches
returns-clause-new_session_keeps c = refl

pub returns-clause-new_session_without_keeps : goal.returns-clause-new_session_without_keeps
unfolding gives_fate fails found_line lines line_of breaks_P01 matches
returns-clause-new_session_without_keeps c = refl

pub returns-clause-early_keeps : goal.returns-clause-early_keeps
unfolding gives_fate fails found_line lines line_of breaks_P01 matches
returns-clause-early_keeps c = refl

pub returns-clause-early_breaks : goal.returns-clause-early_breaks
unfolding gives_fate fails found_line lines line_of breaks_P01 matches
returns-clause-early_breaks c = refl

pub returns-clause-turned_away_keeps : goal.returns-clause-turned_away_keeps
unfolding gives_fate fails found_line lines line_of breaks_P01 matches
returns-clause-turned_away_keeps c = refl

pub returns-clause-void_breaks : goal.returns-clause-void_breaks
unfolding gives_fate fails found_line lines line_of breaks_P01 matches
returns-clause-void_breaks c = refl

pub returns-clause-disturbed_keeps : goal.returns-clause-disturbed_keeps
unfolding gives_fate fails found_line lines line_of breaks_P01 matches
returns-clause-disturbed_keeps c = refl

pub returns-clause-bad_subscribe_keeps : goal.returns-clause-bad_subscribe_keeps
unfolding gives_fate fails found_line lines line_of breaks_P01 matches
returns-clause-bad_subscribe_keeps c = refl

pub returns-clause-bad_unsubscribe_keeps : goal.returns-clause-bad_unsubscribe_keeps
unfolding gives_fate fails found_line lines line_of breaks_P01 matches
returns-clause-bad_unsubscribe_keeps c = refl

pub returns-clause-lost_keeps : goal.returns-clause-lost_keeps
unfolding gives_fate fails found_line lines line_of breaks_P01 matches
returns-clause-lost_keeps c = refl

pub returns-clause-lost_later_breaks : goal.returns-clause-lost_later_breaks
unfolding gives_fate fails found_line lines line_of breaks_P01 matches
returns-clause-lost_later_breaks c = refl

pub returns-clause-bad_publish_breaks : goal.returns-clause-bad_publish_breaks
unfolding gives_fate fails found_line lines line_of breaks_P01 matches
returns-clause-bad_publish_breaks c = refl

pub returns-clause-unasked_keeps : goal.returns-clause-unasked_keeps
unfolding gives_fate fails found_line lines line_of breaks_P01 matches
returns-clause-unasked_keeps c = refl

pub returns-clause-client_keeps : goal.returns-clause-client_keeps
unfolding gives_fate fails found_line lines line_of breaks_P01 matches
returns-clause-client_keeps c = refl

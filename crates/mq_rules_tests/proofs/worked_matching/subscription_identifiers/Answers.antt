use Rattle.std.proofs.Common.{refl}
use Rattle.mq_topic.specs.Matching.{matches}
use Rattle.mq_rules.specs.Connections.{gives_fate}
use Rattle.mq_rules.specs.Rules.{found_line, lines, line_of}
use Rattle.mq_rules.specs.Statements.{fails}
use Rattle.mq_rules.specs.MatchingSubscriptions.{breaks_P02}
use Rattle.mq_rules_tests.proofs.worked_matching.subscription_identifiers.Goals as goal

pub returns-clause-without_breaks : goal.returns-clause-without_breaks
unfolding gives_fate fails found_line lines line_of breaks_P02 matches
returns-clause-without_breaks c = refl

pub returns-clause-with_keeps : goal.returns-clause-with_keeps
unfolding gives_fate fails found_line lines line_of breaks_P02 matches
returns-clause-with_keeps c = refl

pub returns-clause-not_given_keeps : goal.returns-clause-not_given_keeps
unfolding gives_fate fails found_line lines line_of breaks_P02 matches
returns-clause-not_given_keeps c = refl

pub returns-clause-foreign_keeps : goal.returns-clause-foreign_keeps
unfolding gives_fate fails found_line lines line_of breaks_P02 matches
returns-clause-foreign_keeps c = refl

pub returns-clause-qos_breaks : goal.returns-clause-qos_breaks
unfolding gives_fate fails found_line lines line_of breaks_P02 matches
returns-clause-qos_breaks c = refl

pub returns-clause-retained_breaks : goal.returns-clause-retained_breaks
unfolding gives_fate fails found_line lines line_of breaks_P02 matches
returns-clause-retained_breaks c = refl

pub returns-clause-unanswered_breaks : goal.returns-clause-unanswered_breaks
unfolding gives_fate fails found_line lines line_of breaks_P02 matches
returns-clause-unanswered_breaks c = refl

pub returns-clause-refused_keeps : goal.returns-clause-refused_keeps
unfolding gives_fate fails found_line lines line_of breaks_P02 matches
returns-clause-refused_keeps c = refl

pub returns-clause-none_matches_keeps : goal.returns-clause-none_matches_keeps
unfolding gives_fate fails found_line lines line_of breaks_P02 matches
returns-clause-none_matches_keeps c = refl

pub returns-clause-overlapping_keeps : goal.returns-clause-overlapping_keeps
unfolding gives_fate fails found_line lines line_of breaks_P02 matches
returns-clause-overlapping_keeps c = refl

pub returns-clause-overlapping_first_keeps : goal.returns-clause-overlapping_first_keeps
unfolding gives_fate fails found_line lines line_of breaks_P02 matches
returns-clause-overlapping_first_keeps c = refl

pub returns-clause-overlapping_both_break : goal.returns-clause-overlapping_both_break
unfolding gives_fate fails found_line lines line_of breaks_P02 matches
returns-clause-overlapping_both_break c = refl

pub returns-clause-overlapping_both_keep : goal.returns-clause-overlapping_both_keep
unfolding gives_fate fails found_line lines line_of breaks_P02 matches
returns-clause-overlapping_both_keep c = refl

pub returns-clause-overlapping_unanswered_keeps : goal.returns-clause-overlapping_unanswered_keeps
unfolding gives_fate fails found_line lines line_of breaks_P02 matches
returns-clause-overlapping_unanswered_keeps c = refl

pub returns-clause-overlapping_refused_breaks : goal.returns-clause-overlapping_refused_breaks
unfolding gives_fate fails found_line lines line_of breaks_P02 matches
returns-clause-overlapping_refused_breaks c = refl

pub returns-clause-overlapping_later_breaks : goal.returns-clause-overlapping_later_breaks
unfolding gives_fate fails found_line lines line_of breaks_P02 matches
returns-clause-overlapping_later_breaks c = refl

pub returns-clause-other_topic_breaks : goal.returns-clause-other_topic_breaks
unfolding gives_fate fails found_line lines line_of breaks_P02 matches
returns-clause-other_topic_breaks c = refl

pub returns-clause-dollar_breaks : goal.returns-clause-dollar_breaks
unfolding gives_fate fails found_line lines line_of breaks_P02 matches
returns-clause-dollar_breaks c = refl

pub returns-clause-again_without_keeps : goal.returns-clause-again_without_keeps
unfolding gives_fate fails found_line lines line_of breaks_P02 matches
returns-clause-again_without_keeps c = refl

pub returns-clause-again_with_keeps : goal.returns-clause-again_with_keeps
unfolding gives_fate fails found_line lines line_of breaks_P02 matches
returns-clause-again_with_keeps c = refl

pub returns-clause-unsubscribed_keeps : goal.returns-clause-unsubscribed_keeps
unfolding gives_fate fails found_line lines line_of breaks_P02 matches
returns-clause-unsubscribed_keeps c = refl

pub returns-clause-again_refused_breaks : goal.returns-clause-again_refused_breaks
unfolding gives_fate fails found_line lines line_of breaks_P02 matches
returns-clause-again_refused_breaks c = refl

pub returns-clause-given_to_both_breaks : goal.returns-clause-given_to_both_breaks
unfolding gives_fate fails found_line lines line_of breaks_P02 matches
returns-clause-given_to_both_breaks c = refl

pub returns-clause-few_codes_break : goal.returns-clause-few_codes_break
unfolding gives_fate fails found_line lines line_of breaks_P02 matches
returns-clause-few_codes_break c = refl

pub returns-clause-one_refused_keeps : goal.returns-clause-one_refused_keeps
unfolding gives_fate fails found_line lines line_of breaks_P02 matches
returns-clause-one_refused_keeps c = refl

pub returns-clause-lacking_keeps : goal.returns-clause-lacking_keeps
unfolding gives_fate fails found_line lines line_of breaks_P02 matches
returns-clause-lacking_keeps c = refl

pub returns-clause-available_breaks : goal.returns-clause-available_breaks
unfolding gives_fate fails found_line lines line_of breaks_P02 matches
returns-clause-available_breaks c = refl

pub returns-clause-others_lacking_breaks : goal.returns-clause-others_lacking_breaks
unfolding gives_fate fails found_line lines line_of breaks_P02 matches
returns-clause-others_lacking_breaks c = refl

pub returns-clause-lacking_next_keeps : goal.returns-clause-lacking_next_keeps
unfolding gives_fate fails found_line lines line_of breaks_P02 matches
returns-clause-lacking_next_keeps c = refl

pub returns-clause-lacking_between_breaks : goal.returns-clause-lacking_between_breaks
unfolding gives_fate fails found_line lines line_of breaks_P02 matches
returns-clause-lacking_between_breaks c = refl

pub returns-clause-first_connack_breaks : goal.returns-clause-first_connack_breaks
unfolding gives_fate fails found_line lines line_of breaks_P02 matches
returns-clause-first_connack_breaks c = refl

pub returns-clause-shared_breaks : goal.returns-clause-shared_breaks
unfolding gives_fate fails found_line lines line_of breaks_P02 matches
returns-clause-shared_breaks c = refl

pub returns-clause-shared_keeps : goal.returns-clause-shared_keeps
unfolding gives_fate fails found_line lines line_of breaks_P02 matches
returns-clause-shared_keeps c = refl

pub returns-clause-shared_not_given_keeps : goal.returns-clause-shared_not_given_keeps
unfolding gives_fate fails found_line lines line_of breaks_P02 matches
returns-clause-shared_not_given_keeps c = refl

pub returns-clause-shared_beside_keeps : goal.returns-clause-shared_beside_keeps
unfolding gives_fate fails found_line lines line_of breaks_P02 matches
returns-clause-shared_beside_keeps c = refl

pub returns-clause-shared_beside_breaks : goal.returns-clause-shared_beside_breaks
unfolding gives_fate fails found_line lines line_of breaks_P02 matches
returns-clause-shared_beside_breaks c = refl

pub returns-clause-duplicate_keeps : goal.returns-clause-duplicate_keeps
unfolding gives_fate fails found_line lines line_of breaks_P02 matches
returns-clause-duplicate_keeps c = refl

pub returns-clause-alias_breaks : goal.returns-clause-alias_breaks
unfolding gives_fate fails found_line lines line_of breaks_P02 matches
returns-clause-alias_breaks c = refl

pub returns-clause-unknown_alias_keeps : goal.returns-clause-unknown_alias_keeps
unfolding gives_fate fails found_line lines line_of breaks_P02 matches
returns-clause-unknown_alias_keeps c = refl

pub returns-clause-in_use_keeps : goal.returns-clause-in_use_keeps
unfolding gives_fate fails found_line lines line_of breaks_P02 matches
returns-clause-in_use_keeps c = refl

pub returns-clause-resumed_breaks : goal.returns-clause-resumed_breaks
unfolding gives_fate fails found_line lines line_of breaks_P02 matches
returns-clause-resumed_breaks c = refl

pub returns-clause-resumed_keeps : goal.returns-clause-resumed_keeps
unfolding gives_fate fails found_line lines line_of breaks_P02 matches
returns-clause-resumed_keeps c = refl

pub returns-clause-new_session_keeps : goal.returns-clause-new_session_keeps
unfolding gives_fate fails found_line lines line_of breaks_P02 matches
returns-clause-new_session_keeps c = refl

pub returns-clause-new_session_breaks : goal.returns-clause-new_session_breaks
unfolding gives_fate fails found_line lines line_of breaks_P02 matches
returns-clause-new_session_breaks c = refl

pub returns-clause-early_breaks : goal.returns-clause-early_breaks
unfolding gives_fate fails found_line lines line_of breaks_P02 matches
returns-clause-early_breaks c = refl

pub returns-clause-turned_away_keeps : goal.returns-clause-turned_away_keeps
unfolding gives_fate fails found_line lines line_of breaks_P02 matches
returns-clause-turned_away_keeps c = refl

pub returns-clause-void_breaks : goal.returns-clause-void_breaks
unfolding gives_fate fails found_line lines line_of breaks_P02 matches
returns-clause-void_breaks c = refl

pub returns-clause-disturbed_keeps : goal.returns-clause-disturbed_keeps
unfolding gives_fate fails found_line lines line_of breaks_P02 matches
returns-clause-disturbed_keeps c = refl

pub returns-clause-bad_subscribe_keeps : goal.returns-clause-bad_subscribe_keeps
unfolding gives_fate fails found_line lines line_of breaks_P02 matches
returns-clause-bad_subscribe_keeps c = refl

pub returns-clause-bad_unsubscribe_keeps : goal.returns-clause-bad_unsubscribe_keeps
unfolding gives_fate fails found_line lines line_of breaks_P02 matches
returns-clause-bad_unsubscribe_keeps c = refl

pub returns-clause-lost_keeps : goal.returns-clause-lost_keeps
unfolding gives_fate fails found_line lines line_of breaks_P02 matches
returns-clause-lost_keeps c = refl

pub returns-clause-bad_publish_breaks : goal.returns-clause-bad_publish_breaks
unfolding gives_fate fails found_line lines line_of breaks_P02 matches
returns-clause-bad_publish_breaks c = refl

pub returns-clause-unasked_keeps : goal.returns-clause-unasked_keeps
unfolding gives_fate fails found_line lines line_of breaks_P02 matches
returns-clause-unasked_keeps c = refl

pub returns-clause-client_keeps : goal.returns-clause-client_keeps
unfolding gives_fate fails found_line lines line_of breaks_P02 matches
returns-clause-client_keeps c = refl

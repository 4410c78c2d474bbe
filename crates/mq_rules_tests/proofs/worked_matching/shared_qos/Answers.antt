use Rattle.std.proofs.Common.{refl}
use Rattle.mq_topic.specs.Matching.{matches}
use Rattle.mq_rules.specs.Connections.{gives_fate}
use Rattle.mq_rules.specs.Rules.{found_line, lines, line_of}
use Rattle.mq_rules.specs.Statements.{fails}
use Rattle.mq_rules.specs.Subscriptions.{breaks_B02}
use Rattle.mq_rules.specs.MatchingSubscriptions.{breaks_B09}
use Rattle.mq_rules_tests.proofs.worked_matching.shared_qos.Goals as goal

pub returns-clause-above_breaks : goal.returns-clause-above_breaks
unfolding gives_fate fails found_line lines line_of breaks_B09 matches
returns-clause-above_breaks c = refl

pub returns-clause-equal_keeps : goal.returns-clause-equal_keeps
unfolding gives_fate fails found_line lines line_of breaks_B09 matches
returns-clause-equal_keeps c = refl

pub returns-clause-below_keeps : goal.returns-clause-below_keeps
unfolding gives_fate fails found_line lines line_of breaks_B09 matches
returns-clause-below_keeps c = refl

pub returns-clause-exactly_breaks : goal.returns-clause-exactly_breaks
unfolding gives_fate fails found_line lines line_of breaks_B09 matches
returns-clause-exactly_breaks c = refl

pub returns-clause-exactly_keeps : goal.returns-clause-exactly_keeps
unfolding gives_fate fails found_line lines line_of breaks_B09 matches
returns-clause-exactly_keeps c = refl

pub returns-clause-at_most_once_keeps : goal.returns-clause-at_most_once_keeps
unfolding gives_fate fails found_line lines line_of breaks_B09 matches
returns-clause-at_most_once_keeps c = refl

pub returns-clause-granted_less_breaks : goal.returns-clause-granted_less_breaks
unfolding gives_fate fails found_line lines line_of breaks_B09 matches
returns-clause-granted_less_breaks c = refl

pub returns-clause-granted_more_keeps : goal.returns-clause-granted_more_keeps
unfolding gives_fate fails found_line lines line_of breaks_B09 matches
returns-clause-granted_more_keeps c = refl

pub returns-clause-unanswered_keeps : goal.returns-clause-unanswered_keeps
unfolding gives_fate fails found_line lines line_of breaks_B09 matches
returns-clause-unanswered_keeps c = refl

pub returns-clause-unanswered_breaks : goal.returns-clause-unanswered_breaks
unfolding gives_fate fails found_line lines line_of breaks_B09 matches
returns-clause-unanswered_breaks c = refl

pub returns-clause-answered_later_keeps : goal.returns-clause-answered_later_keeps
unfolding gives_fate fails found_line lines line_of breaks_B09 matches
returns-clause-answered_later_keeps c = refl

pub returns-clause-answered_since_breaks : goal.returns-clause-answered_since_breaks
unfolding gives_fate fails found_line lines line_of breaks_B09 matches
returns-clause-answered_since_breaks c = refl

pub returns-clause-other_options_break : goal.returns-clause-other_options_break
unfolding gives_fate fails found_line lines line_of breaks_B09 matches
returns-clause-other_options_break c = refl

pub returns-clause-overlapping_keeps : goal.returns-clause-overlapping_keeps
unfolding gives_fate fails found_line lines line_of breaks_B09 matches
returns-clause-overlapping_keeps c = refl

pub returns-clause-overlapping_share_keeps : goal.returns-clause-overlapping_share_keeps
unfolding gives_fate fails found_line lines line_of breaks_B09 matches
returns-clause-overlapping_share_keeps c = refl

pub returns-clause-overlapping_unanswered_keeps : goal.returns-clause-overlapping_unanswered_keeps
unfolding gives_fate fails found_line lines line_of breaks_B09 matches
returns-clause-overlapping_unanswered_keeps c = refl

pub returns-clause-overlapping_breaks : goal.returns-clause-overlapping_breaks
unfolding gives_fate fails found_line lines line_of breaks_B09 matches
returns-clause-overlapping_breaks c = refl

pub returns-clause-overlapping_refused_breaks : goal.returns-clause-overlapping_refused_breaks
unfolding gives_fate fails found_line lines line_of breaks_B09 matches
returns-clause-overlapping_refused_breaks c = refl

pub returns-clause-other_topic_breaks : goal.returns-clause-other_topic_breaks
unfolding gives_fate fails found_line lines line_of breaks_B09 matches
returns-clause-other_topic_breaks c = refl

pub returns-clause-ordinary_beside_breaks : goal.returns-clause-ordinary_beside_breaks
unfolding gives_fate fails found_line lines line_of breaks_B09 matches
returns-clause-ordinary_beside_breaks c = refl

pub returns-clause-ordinary_beside_keeps : goal.returns-clause-ordinary_beside_keeps
unfolding gives_fate fails found_line lines line_of breaks_B09 matches
returns-clause-ordinary_beside_keeps c = refl

pub returns-clause-refused_share_breaks : goal.returns-clause-refused_share_breaks
unfolding gives_fate fails found_line lines line_of breaks_B09 matches
returns-clause-refused_share_breaks c = refl

pub returns-clause-refused_share_keeps : goal.returns-clause-refused_share_keeps
unfolding gives_fate fails found_line lines line_of breaks_B02 matches
returns-clause-refused_share_keeps c = refl

pub returns-clause-none_matches_keeps : goal.returns-clause-none_matches_keeps
unfolding gives_fate fails found_line lines line_of breaks_B09 matches
returns-clause-none_matches_keeps c = refl

pub returns-clause-refused_keeps : goal.returns-clause-refused_keeps
unfolding gives_fate fails found_line lines line_of breaks_B09 matches
returns-clause-refused_keeps c = refl

pub returns-clause-ordinary_keeps : goal.returns-clause-ordinary_keeps
unfolding gives_fate fails found_line lines line_of breaks_B09 matches
returns-clause-ordinary_keeps c = refl

pub returns-clause-ordinary_breaks : goal.returns-clause-ordinary_breaks
unfolding gives_fate fails found_line lines line_of breaks_B02 matches
returns-clause-ordinary_breaks c = refl

pub returns-clause-shared_keeps : goal.returns-clause-shared_keeps
unfolding gives_fate fails found_line lines line_of breaks_B02 matches
returns-clause-shared_keeps c = refl

pub returns-clause-lowered_keeps : goal.returns-clause-lowered_keeps
unfolding gives_fate fails found_line lines line_of breaks_B09 matches
returns-clause-lowered_keeps c = refl

pub returns-clause-raised_keeps : goal.returns-clause-raised_keeps
unfolding gives_fate fails found_line lines line_of breaks_B09 matches
returns-clause-raised_keeps c = refl

pub returns-clause-unsubscribed_keeps : goal.returns-clause-unsubscribed_keeps
unfolding gives_fate fails found_line lines line_of breaks_B09 matches
returns-clause-unsubscribed_keeps c = refl

pub returns-clause-raised_later_breaks : goal.returns-clause-raised_later_breaks
unfolding gives_fate fails found_line lines line_of breaks_B09 matches
returns-clause-raised_later_breaks c = refl

pub returns-clause-raise_refused_breaks : goal.returns-clause-raise_refused_breaks
unfolding gives_fate fails found_line lines line_of breaks_B09 matches
returns-clause-raise_refused_breaks c = refl

pub returns-clause-second_breaks : goal.returns-clause-second_breaks
unfolding gives_fate fails found_line lines line_of breaks_B09 matches
returns-clause-second_breaks c = refl

pub returns-clause-second_keeps : goal.returns-clause-second_keeps
unfolding gives_fate fails found_line lines line_of breaks_B09 matches
returns-clause-second_keeps c = refl

pub returns-clause-few_codes_break : goal.returns-clause-few_codes_break
unfolding gives_fate fails found_line lines line_of breaks_B09 matches
returns-clause-few_codes_break c = refl

pub returns-clause-few_codes_keep : goal.returns-clause-few_codes_keep
unfolding gives_fate fails found_line lines line_of breaks_B09 matches
returns-clause-few_codes_keep c = refl

pub returns-clause-twice_keeps : goal.returns-clause-twice_keeps
unfolding gives_fate fails found_line lines line_of breaks_B09 matches
returns-clause-twice_keeps c = refl

pub returns-clause-wildcard_breaks : goal.returns-clause-wildcard_breaks
unfolding gives_fate fails found_line lines line_of breaks_B09 matches
returns-clause-wildcard_breaks c = refl

pub returns-clause-duplicate_keeps : goal.returns-clause-duplicate_keeps
unfolding gives_fate fails found_line lines line_of breaks_B09 matches
returns-clause-duplicate_keeps c = refl

pub returns-clause-in_use_keeps : goal.returns-clause-in_use_keeps
unfolding gives_fate fails found_line lines line_of breaks_B09 matches
returns-clause-in_use_keeps c = refl

pub returns-clause-in_use_breaks : goal.returns-clause-in_use_breaks
unfolding gives_fate fails found_line lines line_of breaks_B09 matches
returns-clause-in_use_breaks c = refl

pub returns-clause-resumed_breaks : goal.returns-clause-resumed_breaks
unfolding gives_fate fails found_line lines line_of breaks_B09 matches
returns-clause-resumed_breaks c = refl

pub returns-clause-resumed_keeps : goal.returns-clause-resumed_keeps
unfolding gives_fate fails found_line lines line_of breaks_B09 matches
returns-clause-resumed_keeps c = refl

pub returns-clause-new_session_breaks : goal.returns-clause-new_session_breaks
unfolding gives_fate fails found_line lines line_of breaks_B09 matches
returns-clause-new_session_breaks c = refl

pub returns-clause-early_breaks : goal.returns-clause-early_breaks
unfolding gives_fate fails found_line lines line_of breaks_B09 matches
returns-clause-early_breaks c = refl

pub returns-clause-turned_away_keeps : goal.returns-clause-turned_away_keeps
unfolding gives_fate fails found_line lines line_of breaks_B09 matches
returns-clause-turned_away_keeps c = refl

pub returns-clause-bad_subscribe_keeps : goal.returns-clause-bad_subscribe_keeps
unfolding gives_fate fails found_line lines line_of breaks_B09 matches
returns-clause-bad_subscribe_keeps c = refl

pub returns-clause-lost_keeps : goal.returns-clause-lost_keeps
unfolding gives_fate fails found_line lines line_of breaks_B09 matches
returns-clause-lost_keeps c = refl

pub returns-clause-unasked_keeps : goal.returns-clause-unasked_keeps
unfolding gives_fate fails found_line lines line_of breaks_B09 matches
returns-clause-unasked_keeps c = refl

pub returns-clause-client_keeps : goal.returns-clause-client_keeps
unfolding gives_fate fails found_line lines line_of breaks_B09 matches
returns-clause-client_keeps c = refl

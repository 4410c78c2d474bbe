use Rattle.std.proofs.Common.{refl}
use Rattle.mq_topic.specs.Matching.{matches}
use Rattle.mq_rules.specs.Connections.{gives_fate}
use Rattle.mq_rules.specs.Rules.{found_line, lines, line_of}
use Rattle.mq_rules.specs.Statements.{fails}
use Rattle.mq_rules.specs.MatchingSubscriptions.{breaks_R01}
use Rattle.mq_rules_tests.proofs.worked_matching.retain_flags.Goals as goal

pub returns-clause-retained_breaks : goal.returns-clause-retained_breaks
unfolding gives_fate fails found_line lines line_of breaks_R01 matches
returns-clause-retained_breaks c = refl

pub returns-clause-not_retained_keeps : goal.returns-clause-not_retained_keeps
unfolding gives_fate fails found_line lines line_of breaks_R01 matches
returns-clause-not_retained_keeps c = refl

pub returns-clause-as_published_keeps : goal.returns-clause-as_published_keeps
unfolding gives_fate fails found_line lines line_of breaks_R01 matches
returns-clause-as_published_keeps c = refl

pub returns-clause-handling_0_keeps : goal.returns-clause-handling_0_keeps
unfolding gives_fate fails found_line lines line_of breaks_R01 matches
returns-clause-handling_0_keeps c = refl

pub returns-clause-handling_1_keeps : goal.returns-clause-handling_1_keeps
unfolding gives_fate fails found_line lines line_of breaks_R01 matches
returns-clause-handling_1_keeps c = refl

pub returns-clause-both_keep : goal.returns-clause-both_keep
unfolding gives_fate fails found_line lines line_of breaks_R01 matches
returns-clause-both_keep c = refl

pub returns-clause-no_local_breaks : goal.returns-clause-no_local_breaks
unfolding gives_fate fails found_line lines line_of breaks_R01 matches
returns-clause-no_local_breaks c = refl

pub returns-clause-once_breaks : goal.returns-clause-once_breaks
unfolding gives_fate fails found_line lines line_of breaks_R01 matches
returns-clause-once_breaks c = refl

pub returns-clause-exactly_breaks : goal.returns-clause-exactly_breaks
unfolding gives_fate fails found_line lines line_of breaks_R01 matches
returns-clause-exactly_breaks c = refl

pub returns-clause-unanswered_breaks : goal.returns-clause-unanswered_breaks
unfolding gives_fate fails found_line lines line_of breaks_R01 matches
returns-clause-unanswered_breaks c = refl

pub returns-clause-refused_keeps : goal.returns-clause-refused_keeps
unfolding gives_fate fails found_line lines line_of breaks_R01 matches
returns-clause-refused_keeps c = refl

pub returns-clause-none_matches_keeps : goal.returns-clause-none_matches_keeps
unfolding gives_fate fails found_line lines line_of breaks_R01 matches
returns-clause-none_matches_keeps c = refl

pub returns-clause-wildcard_breaks : goal.returns-clause-wildcard_breaks
unfolding gives_fate fails found_line lines line_of breaks_R01 matches
returns-clause-wildcard_breaks c = refl

pub returns-clause-overlapping_keeps : goal.returns-clause-overlapping_keeps
unfolding gives_fate fails found_line lines line_of breaks_R01 matches
returns-clause-overlapping_keeps c = refl

pub returns-clause-overlapping_as_published_keeps : goal.returns-clause-overlapping_as_published_keeps
unfolding gives_fate fails found_line lines line_of breaks_R01 matches
returns-clause-overlapping_as_published_keeps c = refl

pub returns-clause-overlapping_both_break : goal.returns-clause-overlapping_both_break
unfolding gives_fate fails found_line lines line_of breaks_R01 matches
returns-clause-overlapping_both_break c = refl

pub returns-clause-overlapping_unanswered_keeps : goal.returns-clause-overlapping_unanswered_keeps
unfolding gives_fate fails found_line lines line_of breaks_R01 matches
returns-clause-overlapping_unanswered_keeps c = refl

pub returns-clause-overlapping_refused_breaks : goal.returns-clause-overlapping_refused_breaks
unfolding gives_fate fails found_line lines line_of breaks_R01 matches
returns-clause-overlapping_refused_breaks c = refl

pub returns-clause-overlapping_later_breaks : goal.returns-clause-overlapping_later_breaks
unfolding gives_fate fails found_line lines line_of breaks_R01 matches
returns-clause-overlapping_later_breaks c = refl

pub returns-clause-other_topic_breaks : goal.returns-clause-other_topic_breaks
unfolding gives_fate fails found_line lines line_of breaks_R01 matches
returns-clause-other_topic_breaks c = refl

pub returns-clause-dollar_breaks : goal.returns-clause-dollar_breaks
unfolding gives_fate fails found_line lines line_of breaks_R01 matches
returns-clause-dollar_breaks c = refl

pub returns-clause-replaced_keeps : goal.returns-clause-replaced_keeps
unfolding gives_fate fails found_line lines line_of breaks_R01 matches
returns-clause-replaced_keeps c = refl

pub returns-clause-replaced_as_published_keeps : goal.returns-clause-replaced_as_published_keeps
unfolding gives_fate fails found_line lines line_of breaks_R01 matches
returns-clause-replaced_as_published_keeps c = refl

pub returns-clause-replacing_keeps : goal.returns-clause-replacing_keeps
unfolding gives_fate fails found_line lines line_of breaks_R01 matches
returns-clause-replacing_keeps c = refl

pub returns-clause-replacing_refused_breaks : goal.returns-clause-replacing_refused_breaks
unfolding gives_fate fails found_line lines line_of breaks_R01 matches
returns-clause-replacing_refused_breaks c = refl

pub returns-clause-unsubscribed_keeps : goal.returns-clause-unsubscribed_keeps
unfolding gives_fate fails found_line lines line_of breaks_R01 matches
returns-clause-unsubscribed_keeps c = refl

pub returns-clause-second_refused_breaks : goal.returns-clause-second_refused_breaks
unfolding gives_fate fails found_line lines line_of breaks_R01 matches
returns-clause-second_refused_breaks c = refl

pub returns-clause-second_granted_keeps : goal.returns-clause-second_granted_keeps
unfolding gives_fate fails found_line lines line_of breaks_R01 matches
returns-clause-second_granted_keeps c = refl

pub returns-clause-few_codes_keep : goal.returns-clause-few_codes_keep
unfolding gives_fate fails found_line lines line_of breaks_R01 matches
returns-clause-few_codes_keep c = refl

pub returns-clause-twice_keeps : goal.returns-clause-twice_keeps
unfolding gives_fate fails found_line lines line_of breaks_R01 matches
returns-clause-twice_keeps c = refl

pub returns-clause-shared_breaks : goal.returns-clause-shared_breaks
unfolding gives_fate fails found_line lines line_of breaks_R01 matches
returns-clause-shared_breaks c = refl

pub returns-clause-shared_keeps : goal.returns-clause-shared_keeps
unfolding gives_fate fails found_line lines line_of breaks_R01 matches
returns-clause-shared_keeps c = refl

pub returns-clause-shared_as_published_keeps : goal.returns-clause-shared_as_published_keeps
unfolding gives_fate fails found_line lines line_of breaks_R01 matches
returns-clause-shared_as_published_keeps c = refl

pub returns-clause-shared_beside_breaks : goal.returns-clause-shared_beside_breaks
unfolding gives_fate fails found_line lines line_of breaks_R01 matches
returns-clause-shared_beside_breaks c = refl

pub returns-clause-shared_beside_keeps : goal.returns-clause-shared_beside_keeps
unfolding gives_fate fails found_line lines line_of breaks_R01 matches
returns-clause-shared_beside_keeps c = refl

pub returns-clause-duplicate_keeps : goal.returns-clause-duplicate_keeps
unfolding gives_fate fails found_line lines line_of breaks_R01 matches
returns-clause-duplicate_keeps c = refl

pub returns-clause-in_use_keeps : goal.returns-clause-in_use_keeps
unfolding gives_fate fails found_line lines line_of breaks_R01 matches
returns-clause-in_use_keeps c = refl

pub returns-clause-resumed_breaks : goal.returns-clause-resumed_breaks
unfolding gives_fate fails found_line lines line_of breaks_R01 matches
returns-clause-resumed_breaks c = refl

pub returns-clause-resumed_keeps : goal.returns-clause-resumed_keeps
unfolding gives_fate fails found_line lines line_of breaks_R01 matches
returns-clause-resumed_keeps c = refl

pub returns-clause-new_session_breaks : goal.returns-clause-new_session_breaks
unfolding gives_fate fails found_line lines line_of breaks_R01 matches
returns-clause-new_session_breaks c = refl

pub returns-clause-early_breaks : goal.returns-clause-early_breaks
unfolding gives_fate fails found_line lines line_of breaks_R01 matches
returns-clause-early_breaks c = refl

pub returns-clause-turned_away_keeps : goal.returns-clause-turned_away_keeps
unfolding gives_fate fails found_line lines line_of breaks_R01 matches
returns-clause-turned_away_keeps c = refl

pub returns-clause-disturbed_keeps : goal.returns-clause-disturbed_keeps
unfolding gives_fate fails found_line lines line_of breaks_R01 matches
returns-clause-disturbed_keeps c = refl

pub returns-clause-bad_subscribe_keeps : goal.returns-clause-bad_subscribe_keeps
unfolding gives_fate fails found_line lines line_of breaks_R01 matches
returns-clause-bad_subscribe_keeps c = refl

pub returns-clause-lost_keeps : goal.returns-clause-lost_keeps
unfolding gives_fate fails found_line lines line_of breaks_R01 matches
returns-clause-lost_keeps c = refl

pub returns-clause-bad_publish_breaks : goal.returns-clause-bad_publish_breaks
unfolding gives_fate fails found_line lines line_of breaks_R01 matches
returns-clause-bad_publish_breaks c = refl

pub returns-clause-unasked_keeps : goal.returns-clause-unasked_keeps
unfolding gives_fate fails found_line lines line_of breaks_R01 matches
returns-clause-unasked_keeps c = refl

pub returns-clause-client_keeps : goal.returns-clause-client_keeps
unfolding gives_fate fails found_line lines line_of breaks_R01 matches
returns-clause-client_keeps c = refl

use Rattle.std.proofs.Common.{refl}
use Rattle.mq_topic.specs.Matching.{matches}
use Rattle.mq_rules.specs.Connections.{gives_fate}
use Rattle.mq_rules.specs.Rules.{found_line, lines, line_of}
use Rattle.mq_rules.specs.Statements.{fails}
use Rattle.mq_rules.specs.MatchingSubscriptions.{breaks_R02}
use Rattle.mq_rules_tests.proofs.worked_matching.retained_for_shares.Goals as goal

pub returns-clause-handling_0_breaks : goal.returns-clause-handling_0_breaks
unfolding gives_fate fails found_line lines line_of breaks_R02 matches
returns-clause-handling_0_breaks c = refl

pub returns-clause-handling_1_breaks : goal.returns-clause-handling_1_breaks
unfolding gives_fate fails found_line lines line_of breaks_R02 matches
returns-clause-handling_1_breaks c = refl

pub returns-clause-handling_2_keeps : goal.returns-clause-handling_2_keeps
unfolding gives_fate fails found_line lines line_of breaks_R02 matches
returns-clause-handling_2_keeps c = refl

pub returns-clause-not_retained_keeps : goal.returns-clause-not_retained_keeps
unfolding gives_fate fails found_line lines line_of breaks_R02 matches
returns-clause-not_retained_keeps c = refl

pub returns-clause-as_published_keeps : goal.returns-clause-as_published_keeps
unfolding gives_fate fails found_line lines line_of breaks_R02 matches
returns-clause-as_published_keeps c = refl

pub returns-clause-once_breaks : goal.returns-clause-once_breaks
unfolding gives_fate fails found_line lines line_of breaks_R02 matches
returns-clause-once_breaks c = refl

pub returns-clause-unanswered_breaks : goal.returns-clause-unanswered_breaks
unfolding gives_fate fails found_line lines line_of breaks_R02 matches
returns-clause-unanswered_breaks c = refl

pub returns-clause-refused_keeps : goal.returns-clause-refused_keeps
unfolding gives_fate fails found_line lines line_of breaks_R02 matches
returns-clause-refused_keeps c = refl

pub returns-clause-none_matches_keeps : goal.returns-clause-none_matches_keeps
unfolding gives_fate fails found_line lines line_of breaks_R02 matches
returns-clause-none_matches_keeps c = refl

pub returns-clause-wildcard_breaks : goal.returns-clause-wildcard_breaks
unfolding gives_fate fails found_line lines line_of breaks_R02 matches
returns-clause-wildcard_breaks c = refl

pub returns-clause-ordinary_keeps : goal.returns-clause-ordinary_keeps
unfolding gives_fate fails found_line lines line_of breaks_R02 matches
returns-clause-ordinary_keeps c = refl

pub returns-clause-beside_handling_0_keeps : goal.returns-clause-beside_handling_0_keeps
unfolding gives_fate fails found_line lines line_of breaks_R02 matches
returns-clause-beside_handling_0_keeps c = refl

pub returns-clause-beside_handling_1_keeps : goal.returns-clause-beside_handling_1_keeps
unfolding gives_fate fails found_line lines line_of breaks_R02 matches
returns-clause-beside_handling_1_keeps c = refl

pub returns-clause-beside_handling_2_breaks : goal.returns-clause-beside_handling_2_breaks
unfolding gives_fate fails found_line lines line_of breaks_R02 matches
returns-clause-beside_handling_2_breaks c = refl

pub returns-clause-beside_as_published_keeps : goal.returns-clause-beside_as_published_keeps
unfolding gives_fate fails found_line lines line_of breaks_R02 matches
returns-clause-beside_as_published_keeps c = refl

pub returns-clause-beside_unanswered_keeps : goal.returns-clause-beside_unanswered_keeps
unfolding gives_fate fails found_line lines line_of breaks_R02 matches
returns-clause-beside_unanswered_keeps c = refl

pub returns-clause-beside_refused_breaks : goal.returns-clause-beside_refused_breaks
unfolding gives_fate fails found_line lines line_of breaks_R02 matches
returns-clause-beside_refused_breaks c = refl

pub returns-clause-beside_other_topic_breaks : goal.returns-clause-beside_other_topic_breaks
unfolding gives_fate fails found_line lines line_of breaks_R02 matches
returns-clause-beside_other_topic_breaks c = refl

pub returns-clause-beside_later_breaks : goal.returns-clause-beside_later_breaks
unfolding gives_fate fails found_line lines line_of breaks_R02 matches
returns-clause-beside_later_breaks c = refl

pub returns-clause-two_shares_break : goal.returns-clause-two_shares_break
unfolding gives_fate fails found_line lines line_of breaks_R02 matches
returns-clause-two_shares_break c = refl

pub returns-clause-two_shares_keep : goal.returns-clause-two_shares_keep
unfolding gives_fate fails found_line lines line_of breaks_R02 matches
returns-clause-two_shares_keep c = refl

pub returns-clause-again_breaks : goal.returns-clause-again_breaks
unfolding gives_fate fails found_line lines line_of breaks_R02 matches
returns-clause-again_breaks c = refl

pub returns-clause-replaced_keeps : goal.returns-clause-replaced_keeps
unfolding gives_fate fails found_line lines line_of breaks_R02 matches
returns-clause-replaced_keeps c = refl

pub returns-clause-replacing_breaks : goal.returns-clause-replacing_breaks
unfolding gives_fate fails found_line lines line_of breaks_R02 matches
returns-clause-replacing_breaks c = refl

pub returns-clause-unsubscribed_keeps : goal.returns-clause-unsubscribed_keeps
unfolding gives_fate fails found_line lines line_of breaks_R02 matches
returns-clause-unsubscribed_keeps c = refl

pub returns-clause-one_packet_keeps : goal.returns-clause-one_packet_keeps
unfolding gives_fate fails found_line lines line_of breaks_R02 matches
returns-clause-one_packet_keeps c = refl

pub returns-clause-one_packet_breaks : goal.returns-clause-one_packet_breaks
unfolding gives_fate fails found_line lines line_of breaks_R02 matches
returns-clause-one_packet_breaks c = refl

pub returns-clause-few_codes_keep : goal.returns-clause-few_codes_keep
unfolding gives_fate fails found_line lines line_of breaks_R02 matches
returns-clause-few_codes_keep c = refl

pub returns-clause-duplicate_keeps : goal.returns-clause-duplicate_keeps
unfolding gives_fate fails found_line lines line_of breaks_R02 matches
returns-clause-duplicate_keeps c = refl

pub returns-clause-resumed_breaks : goal.returns-clause-resumed_breaks
unfolding gives_fate fails found_line lines line_of breaks_R02 matches
returns-clause-resumed_breaks c = refl

pub returns-clause-resumed_keeps : goal.returns-clause-resumed_keeps
unfolding gives_fate fails found_line lines line_of breaks_R02 matches
returns-clause-resumed_keeps c = refl

pub returns-clause-new_session_breaks : goal.returns-clause-new_session_breaks
unfolding gives_fate fails found_line lines line_of breaks_R02 matches
returns-clause-new_session_breaks c = refl

pub returns-clause-early_breaks : goal.returns-clause-early_breaks
unfolding gives_fate fails found_line lines line_of breaks_R02 matches
returns-clause-early_breaks c = refl

pub returns-clause-turned_away_keeps : goal.returns-clause-turned_away_keeps
unfolding gives_fate fails found_line lines line_of breaks_R02 matches
returns-clause-turned_away_keeps c = refl

pub returns-clause-bad_subscribe_keeps : goal.returns-clause-bad_subscribe_keeps
unfolding gives_fate fails found_line lines line_of breaks_R02 matches
returns-clause-bad_subscribe_keeps c = refl

pub returns-clause-lost_keeps : goal.returns-clause-lost_keeps
unfolding gives_fate fails found_line lines line_of breaks_R02 matches
returns-clause-lost_keeps c = refl

pub returns-clause-bad_publish_breaks : goal.returns-clause-bad_publish_breaks
unfolding gives_fate fails found_line lines line_of breaks_R02 matches
returns-clause-bad_publish_breaks c = refl

pub returns-clause-unasked_keeps : goal.returns-clause-unasked_keeps
unfolding gives_fate fails found_line lines line_of breaks_R02 matches
returns-clause-unasked_keeps c = refl

pub returns-clause-client_keeps : goal.returns-clause-client_keeps
unfolding gives_fate fails found_line lines line_of breaks_R02 matches
returns-clause-client_keeps c = refl

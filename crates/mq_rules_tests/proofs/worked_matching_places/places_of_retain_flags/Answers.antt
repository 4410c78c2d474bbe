use Rattle.std.proofs.Common.{refl}
use Rattle.mq_topic.specs.Matching.{matches}
use Rattle.mq_rules.specs.Connections.{gives_fate}
use Rattle.mq_rules.specs.Rules.{found_line, lines, line_of}
use Rattle.mq_rules.specs.Occasions.{applies}
use Rattle.mq_rules.specs.MatchingSubscriptions.{applies_R01, applies_R02}
use Rattle.mq_rules_tests.proofs.worked_matching_places.places_of_retain_flags.Goals as goal

pub returns-clause-retained_or_not : goal.returns-clause-retained_or_not
unfolding gives_fate applies found_line lines line_of applies_R01 matches
returns-clause-retained_or_not c = refl

pub returns-clause-as_published : goal.returns-clause-as_published
unfolding gives_fate applies found_line lines line_of applies_R01 matches
returns-clause-as_published c = refl

pub returns-clause-handling_0 : goal.returns-clause-handling_0
unfolding gives_fate applies found_line lines line_of applies_R01 matches
returns-clause-handling_0 c = refl

pub returns-clause-handling_1 : goal.returns-clause-handling_1
unfolding gives_fate applies found_line lines line_of applies_R01 matches
returns-clause-handling_1 c = refl

pub returns-clause-refused : goal.returns-clause-refused
unfolding gives_fate applies found_line lines line_of applies_R01 matches
returns-clause-refused c = refl

pub returns-clause-overlapping : goal.returns-clause-overlapping
unfolding gives_fate applies found_line lines line_of applies_R01 matches
returns-clause-overlapping c = refl

pub returns-clause-replaced : goal.returns-clause-replaced
unfolding gives_fate applies found_line lines line_of applies_R01 matches
returns-clause-replaced c = refl

pub returns-clause-shared : goal.returns-clause-shared
unfolding gives_fate applies found_line lines line_of applies_R01 matches
returns-clause-shared c = refl

pub returns-clause-shared_handling_0 : goal.returns-clause-shared_handling_0
unfolding gives_fate applies found_line lines line_of applies_R01 matches
returns-clause-shared_handling_0 c = refl

pub returns-clause-duplicate : goal.returns-clause-duplicate
unfolding gives_fate applies found_line lines line_of applies_R01 matches
returns-clause-duplicate c = refl

pub returns-clause-resumed : goal.returns-clause-resumed
unfolding gives_fate applies found_line lines line_of applies_R01 matches
returns-clause-resumed c = refl

pub returns-clause-lost : goal.returns-clause-lost
unfolding gives_fate applies found_line lines line_of applies_R01 matches
returns-clause-lost c = refl

pub returns-clause-unasked : goal.returns-clause-unasked
unfolding gives_fate applies found_line lines line_of applies_R01 matches
returns-clause-unasked c = refl

pub returns-clause-given_to_a_share : goal.returns-clause-given_to_a_share
unfolding gives_fate applies found_line lines line_of applies_R02 matches
returns-clause-given_to_a_share c = refl

pub returns-clause-given_to_two_shares : goal.returns-clause-given_to_two_shares
unfolding gives_fate applies found_line lines line_of applies_R02 matches
returns-clause-given_to_two_shares c = refl

pub returns-clause-share_handling_2 : goal.returns-clause-share_handling_2
unfolding gives_fate applies found_line lines line_of applies_R02 matches
returns-clause-share_handling_2 c = refl

pub returns-clause-share_as_published : goal.returns-clause-share_as_published
unfolding gives_fate applies found_line lines line_of applies_R02 matches
returns-clause-share_as_published c = refl

pub returns-clause-share_refused : goal.returns-clause-share_refused
unfolding gives_fate applies found_line lines line_of applies_R02 matches
returns-clause-share_refused c = refl

pub returns-clause-beside_handling_0 : goal.returns-clause-beside_handling_0
unfolding gives_fate applies found_line lines line_of applies_R02 matches
returns-clause-beside_handling_0 c = refl

pub returns-clause-beside_handling_2 : goal.returns-clause-beside_handling_2
unfolding gives_fate applies found_line lines line_of applies_R02 matches
returns-clause-beside_handling_2 c = refl

pub returns-clause-beside_other_topic : goal.returns-clause-beside_other_topic
unfolding gives_fate applies found_line lines line_of applies_R02 matches
returns-clause-beside_other_topic c = refl

pub returns-clause-no_share : goal.returns-clause-no_share
unfolding gives_fate applies found_line lines line_of applies_R02 matches
returns-clause-no_share c = refl

pub returns-clause-share_by_its_own_text : goal.returns-clause-share_by_its_own_text
unfolding gives_fate applies found_line lines line_of applies_R02 matches
returns-clause-share_by_its_own_text c = refl

pub returns-clause-share_bad_subscribe : goal.returns-clause-share_bad_subscribe
unfolding gives_fate applies found_line lines line_of applies_R02 matches
returns-clause-share_bad_subscribe c = refl

pub returns-clause-share_unasked : goal.returns-clause-share_unasked
unfolding gives_fate applies found_line lines line_of applies_R02 matches
returns-clause-share_unasked c = refl

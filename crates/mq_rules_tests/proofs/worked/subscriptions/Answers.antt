use Rattle.std.proofs.Common.{refl}
use Rattle.mq_rules.specs.Rules.{found_line, lines, line_of}
use Rattle.mq_rules.specs.Statements.{fails}
use Rattle.mq_topic.specs.Matching.{matches}
use Rattle.mq_rules.specs.Subscriptions.{breaks_B01, breaks_B02, breaks_B03, breaks_B04}
use Rattle.mq_rules_tests.proofs.worked.subscriptions.Goals as goal
use Rattle.mq_rules.specs.Connections.{gives_fate}

pub returns-clause-unasked_breaks : goal.returns-clause-unasked_breaks
unfolding gives_fate fails found_line lines line_of breaks_B01 matches
returns-clause-unasked_breaks c = refl

pub returns-clause-unasked_keeps : goal.returns-clause-unasked_keeps
unfolding gives_fate fails found_line lines line_of breaks_B01 matches
returns-clause-unasked_keeps c = refl

pub returns-clause-refused_breaks : goal.returns-clause-refused_breaks
unfolding gives_fate fails found_line lines line_of breaks_B01 matches
returns-clause-refused_breaks c = refl

pub returns-clause-qos_breaks : goal.returns-clause-qos_breaks
unfolding gives_fate fails found_line lines line_of breaks_B02 matches
returns-clause-qos_breaks c = refl

pub returns-clause-qos_keeps : goal.returns-clause-qos_keeps
unfolding gives_fate fails found_line lines line_of breaks_B02 matches
returns-clause-qos_keeps c = refl

pub returns-clause-granted_breaks : goal.returns-clause-granted_breaks
unfolding gives_fate fails found_line lines line_of breaks_B02 matches
returns-clause-granted_breaks c = refl

pub returns-clause-suback_breaks : goal.returns-clause-suback_breaks
unfolding gives_fate fails found_line lines line_of breaks_B03
returns-clause-suback_breaks c = refl

pub returns-clause-suback_keeps : goal.returns-clause-suback_keeps
unfolding gives_fate fails found_line lines line_of breaks_B03
returns-clause-suback_keeps c = refl

pub returns-clause-unsuback_breaks : goal.returns-clause-unsuback_breaks
unfolding gives_fate fails found_line lines line_of breaks_B04
returns-clause-unsuback_breaks c = refl

pub returns-clause-unsuback_keeps : goal.returns-clause-unsuback_keeps
unfolding gives_fate fails found_line lines line_of breaks_B04
returns-clause-unsuback_keeps c = refl

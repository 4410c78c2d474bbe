use Rattle.std.proofs.Common.{refl}
use Rattle.mq_rules.specs.Rules.{found_line, lines, line_of}
use Rattle.mq_rules.specs.Connections.{gives_fate}
use Rattle.mq_rules.specs.Statements.{fails}
use Rattle.mq_rules.specs.FurtherPasts.{breaks_A01}
use Rattle.mq_rules_tests.proofs.worked.before_a_connack.Goals as goal

pub returns-clause-packet_breaks : goal.returns-clause-packet_breaks
unfolding gives_fate fails found_line lines line_of breaks_A01
returns-clause-packet_breaks c = refl

pub returns-clause-packet_keeps : goal.returns-clause-packet_keeps
unfolding gives_fate fails found_line lines line_of breaks_A01
returns-clause-packet_keeps c = refl

pub returns-clause-auth_breaks : goal.returns-clause-auth_breaks
unfolding gives_fate fails found_line lines line_of breaks_A01
returns-clause-auth_breaks c = refl

pub returns-clause-leaving_keeps : goal.returns-clause-leaving_keeps
unfolding gives_fate fails found_line lines line_of breaks_A01
returns-clause-leaving_keeps c = refl

pub returns-clause-connect_keeps : goal.returns-clause-connect_keeps
unfolding gives_fate fails found_line lines line_of breaks_A01
returns-clause-connect_keeps c = refl

pub returns-clause-bytes_break : goal.returns-clause-bytes_break
unfolding gives_fate fails found_line lines line_of breaks_A01
returns-clause-bytes_break c = refl

pub returns-clause-bytes_keep : goal.returns-clause-bytes_keep
unfolding gives_fate fails found_line lines line_of breaks_A01
returns-clause-bytes_keep c = refl

pub returns-clause-refusal_keeps : goal.returns-clause-refusal_keeps
unfolding gives_fate fails found_line lines line_of breaks_A01
returns-clause-refusal_keeps c = refl

pub returns-clause-bad_connack_keeps : goal.returns-clause-bad_connack_keeps
unfolding gives_fate fails found_line lines line_of breaks_A01
returns-clause-bad_connack_keeps c = refl

pub returns-clause-bad_auth_breaks : goal.returns-clause-bad_auth_breaks
unfolding gives_fate fails found_line lines line_of breaks_A01
returns-clause-bad_auth_breaks c = refl

pub returns-clause-lost_keeps : goal.returns-clause-lost_keeps
unfolding gives_fate fails found_line lines line_of breaks_A01
returns-clause-lost_keeps c = refl

pub returns-clause-plain_keeps : goal.returns-clause-plain_keeps
unfolding gives_fate fails found_line lines line_of breaks_A01
returns-clause-plain_keeps c = refl

pub returns-clause-anew_breaks : goal.returns-clause-anew_breaks
unfolding gives_fate fails found_line lines line_of breaks_A01
returns-clause-anew_breaks c = refl

pub returns-clause-unasked_keeps : goal.returns-clause-unasked_keeps
unfolding gives_fate fails found_line lines line_of breaks_A01
returns-clause-unasked_keeps c = refl

pub returns-clause-server_keeps : goal.returns-clause-server_keeps
unfolding gives_fate fails found_line lines line_of breaks_A01
returns-clause-server_keeps c = refl

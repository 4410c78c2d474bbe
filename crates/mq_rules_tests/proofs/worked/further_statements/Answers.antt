use Rattle.std.proofs.Common.{refl}
use Rattle.mq_rules.specs.Rules.{found_line, lines, line_of}
use Rattle.mq_rules.specs.Statements.{fails}
use Rattle.mq_rules.specs.FurtherPasts.{breaks_F05, breaks_F06, breaks_A02}
use Rattle.mq_rules_tests.proofs.worked.further_statements.Goals as goal
use Rattle.mq_rules.specs.Connections.{gives_fate}

pub returns-clause-will_qos_breaks : goal.returns-clause-will_qos_breaks
unfolding gives_fate fails found_line lines line_of breaks_F05
returns-clause-will_qos_breaks c = refl

pub returns-clause-will_qos_keeps : goal.returns-clause-will_qos_keeps
unfolding gives_fate fails found_line lines line_of breaks_F05
returns-clause-will_qos_keeps c = refl

pub returns-clause-will_qos_keeps_refused : goal.returns-clause-will_qos_keeps_refused
unfolding gives_fate fails found_line lines line_of breaks_F05
returns-clause-will_qos_keeps_refused c = refl

pub returns-clause-will_qos_keeps_unasked : goal.returns-clause-will_qos_keeps_unasked
unfolding gives_fate fails found_line lines line_of breaks_F05
returns-clause-will_qos_keeps_unasked c = refl

pub returns-clause-will_retain_breaks : goal.returns-clause-will_retain_breaks
unfolding gives_fate fails found_line lines line_of breaks_F06
returns-clause-will_retain_breaks c = refl

pub returns-clause-will_retain_keeps : goal.returns-clause-will_retain_keeps
unfolding gives_fate fails found_line lines line_of breaks_F06
returns-clause-will_retain_keeps c = refl

pub returns-clause-will_retain_keeps_available : goal.returns-clause-will_retain_keeps_available
unfolding gives_fate fails found_line lines line_of breaks_F06
returns-clause-will_retain_keeps_available c = refl

pub returns-clause-will_retain_keeps_refused : goal.returns-clause-will_retain_keeps_refused
unfolding gives_fate fails found_line lines line_of breaks_F06
returns-clause-will_retain_keeps_refused c = refl

pub returns-clause-method_breaks_client : goal.returns-clause-method_breaks_client
unfolding gives_fate fails found_line lines line_of breaks_A02
returns-clause-method_breaks_client c = refl

pub returns-clause-method_keeps_client : goal.returns-clause-method_keeps_client
unfolding gives_fate fails found_line lines line_of breaks_A02
returns-clause-method_keeps_client c = refl

pub returns-clause-method_keeps_before : goal.returns-clause-method_keeps_before
unfolding gives_fate fails found_line lines line_of breaks_A02
returns-clause-method_keeps_before c = refl

pub returns-clause-method_breaks_server : goal.returns-clause-method_breaks_server
unfolding gives_fate fails found_line lines line_of breaks_A02
returns-clause-method_breaks_server c = refl

pub returns-clause-method_breaks_auth : goal.returns-clause-method_breaks_auth
unfolding gives_fate fails found_line lines line_of breaks_A02
returns-clause-method_breaks_auth c = refl

pub returns-clause-method_keeps_server : goal.returns-clause-method_keeps_server
unfolding gives_fate fails found_line lines line_of breaks_A02
returns-clause-method_keeps_server c = refl

use Rattle.std.proofs.Common.{refl}
use Rattle.mq_rules.specs.Rules.{found_line, lines, line_of}
use Rattle.mq_rules.specs.Statements.{fails}
use Rattle.mq_rules.specs.Pasts.{breaks_C18, breaks_C19, breaks_C20}
use Rattle.mq_rules_tests.proofs.worked.properties.Goals as goal
use Rattle.mq_rules.specs.Connections.{gives_fate}

pub returns-clause-subscription_breaks : goal.returns-clause-subscription_breaks
unfolding gives_fate fails found_line lines line_of breaks_C18
returns-clause-subscription_breaks c = refl

pub returns-clause-subscription_keeps : goal.returns-clause-subscription_keeps
unfolding gives_fate fails found_line lines line_of breaks_C18
returns-clause-subscription_keeps c = refl

pub returns-clause-server_expiry_breaks : goal.returns-clause-server_expiry_breaks
unfolding gives_fate fails found_line lines line_of breaks_C19
returns-clause-server_expiry_breaks c = refl

pub returns-clause-server_expiry_keeps : goal.returns-clause-server_expiry_keeps
unfolding gives_fate fails found_line lines line_of breaks_C19
returns-clause-server_expiry_keeps c = refl

pub returns-clause-client_expiry_breaks : goal.returns-clause-client_expiry_breaks
unfolding gives_fate fails found_line lines line_of breaks_C20
returns-clause-client_expiry_breaks c = refl

pub returns-clause-client_expiry_keeps : goal.returns-clause-client_expiry_keeps
unfolding gives_fate fails found_line lines line_of breaks_C20
returns-clause-client_expiry_keeps c = refl

pub returns-clause-client_expiry_keeps_ending : goal.returns-clause-client_expiry_keeps_ending
unfolding gives_fate fails found_line lines line_of breaks_C20
returns-clause-client_expiry_keeps_ending c = refl

use Rattle.std.proofs.Common.{refl}
use Rattle.mq_rules.specs.Rules.{found_line, lines, line_of}
use Rattle.mq_rules.specs.Statements.{fails}
use Rattle.mq_rules_tests.proofs.worked.unbound_ends.Goals as goal
use Rattle.mq_rules.specs.Connections.{gives_fate}

pub returns-clause-server_begins : goal.returns-clause-server_begins
unfolding gives_fate fails found_line lines line_of
returns-clause-server_begins c = refl

pub returns-clause-client_begins : goal.returns-clause-client_begins
unfolding gives_fate fails found_line lines line_of
returns-clause-client_begins c = refl

pub returns-clause-server_resends : goal.returns-clause-server_resends
unfolding gives_fate fails found_line lines line_of
returns-clause-server_resends c = refl

pub returns-clause-server_acknowledges : goal.returns-clause-server_acknowledges
unfolding gives_fate fails found_line lines line_of
returns-clause-server_acknowledges c = refl

pub returns-clause-client_answers : goal.returns-clause-client_answers
unfolding gives_fate fails found_line lines line_of
returns-clause-client_answers c = refl

pub returns-clause-unrecorded_completes : goal.returns-clause-unrecorded_completes
unfolding gives_fate fails found_line lines line_of
returns-clause-unrecorded_completes c = refl

pub returns-clause-client_publishes : goal.returns-clause-client_publishes
unfolding gives_fate fails found_line lines line_of
returns-clause-client_publishes c = refl

use Rattle.std.proofs.Common.{refl}
use Rattle.mq_rules.specs.Rules.{found_line, lines, line_of}
use Rattle.mq_rules.specs.Connections.{gives_fate}
use Rattle.mq_rules.specs.Statements.{fails}
use Rattle.mq_rules.specs.FurtherPasts.{breaks_V03, breaks_V04, breaks_V06}
use Rattle.mq_rules_tests.proofs.worked.further_values.Goals as goal

pub returns-clause-name_breaks : goal.returns-clause-name_breaks
unfolding gives_fate fails found_line lines line_of breaks_V03
returns-clause-name_breaks c = refl

pub returns-clause-name_keeps : goal.returns-clause-name_keeps
unfolding gives_fate fails found_line lines line_of breaks_V03
returns-clause-name_keeps c = refl

pub returns-clause-local_breaks : goal.returns-clause-local_breaks
unfolding gives_fate fails found_line lines line_of breaks_V04
returns-clause-local_breaks c = refl

pub returns-clause-local_keeps : goal.returns-clause-local_keeps
unfolding gives_fate fails found_line lines line_of breaks_V04
returns-clause-local_keeps c = refl

pub returns-clause-code_breaks_client : goal.returns-clause-code_breaks_client
unfolding gives_fate fails found_line lines line_of breaks_V06
returns-clause-code_breaks_client c = refl

pub returns-clause-code_breaks_highest : goal.returns-clause-code_breaks_highest
unfolding gives_fate fails found_line lines line_of breaks_V06
returns-clause-code_breaks_highest c = refl

pub returns-clause-code_keeps_client : goal.returns-clause-code_keeps_client
unfolding gives_fate fails found_line lines line_of breaks_V06
returns-clause-code_keeps_client c = refl

pub returns-clause-code_keeps_doubtful : goal.returns-clause-code_keeps_doubtful
unfolding gives_fate fails found_line lines line_of breaks_V06
returns-clause-code_keeps_doubtful c = refl

pub returns-clause-code_breaks_receipt : goal.returns-clause-code_breaks_receipt
unfolding gives_fate fails found_line lines line_of breaks_V06
returns-clause-code_breaks_receipt c = refl

pub returns-clause-code_keeps_receipt : goal.returns-clause-code_keeps_receipt
unfolding gives_fate fails found_line lines line_of breaks_V06
returns-clause-code_keeps_receipt c = refl

pub returns-clause-code_breaks_server : goal.returns-clause-code_breaks_server
unfolding gives_fate fails found_line lines line_of breaks_V06
returns-clause-code_breaks_server c = refl

pub returns-clause-code_keeps_server : goal.returns-clause-code_keeps_server
unfolding gives_fate fails found_line lines line_of breaks_V06
returns-clause-code_keeps_server c = refl

pub returns-clause-code_keeps_receipt_server : goal.returns-clause-code_keeps_receipt_server
unfolding gives_fate fails found_line lines line_of breaks_V06
returns-clause-code_keeps_receipt_server c = refl

use Rattle.std.proofs.Common.{refl}
use Rattle.mq_rules.specs.Rules.{found_line, lines, line_of}
use Rattle.mq_rules.specs.Statements.{fails, breaks_bytes}
use Rattle.mq_rules_tests.proofs.worked.bytes_of_a_server.Goals as goal
use Rattle.mq_rules.specs.Connections.{gives_fate}

pub returns-clause-w01 : goal.returns-clause-w01
unfolding gives_fate fails found_line lines line_of breaks_bytes
returns-clause-w01 c = refl

pub returns-clause-w02 : goal.returns-clause-w02
unfolding gives_fate fails found_line lines line_of breaks_bytes
returns-clause-w02 c = refl

pub returns-clause-w03 : goal.returns-clause-w03
unfolding gives_fate fails found_line lines line_of breaks_bytes
returns-clause-w03 c = refl

pub returns-clause-w04 : goal.returns-clause-w04
unfolding gives_fate fails found_line lines line_of breaks_bytes
returns-clause-w04 c = refl

pub returns-clause-w05 : goal.returns-clause-w05
unfolding gives_fate fails found_line lines line_of breaks_bytes
returns-clause-w05 c = refl

pub returns-clause-w06 : goal.returns-clause-w06
unfolding gives_fate fails found_line lines line_of breaks_bytes
returns-clause-w06 c = refl

pub returns-clause-w07 : goal.returns-clause-w07
unfolding gives_fate fails found_line lines line_of breaks_bytes
returns-clause-w07 c = refl

pub returns-clause-w08 : goal.returns-clause-w08
unfolding gives_fate fails found_line lines line_of breaks_bytes
returns-clause-w08 c = refl

pub returns-clause-w09 : goal.returns-clause-w09
unfolding gives_fate fails found_line lines line_of breaks_bytes
returns-clause-w09 c = refl

pub returns-clause-w10 : goal.returns-clause-w10
unfolding gives_fate fails found_line lines line_of breaks_bytes
returns-clause-w10 c = refl

pub returns-clause-w11 : goal.returns-clause-w11
unfolding gives_fate fails found_line lines line_of breaks_bytes
returns-clause-w11 c = refl

pub returns-clause-w12 : goal.returns-clause-w12
unfolding gives_fate fails found_line lines line_of breaks_bytes
returns-clause-w12 c = refl

pub returns-clause-w13 : goal.returns-clause-w13
unfolding gives_fate fails found_line lines line_of breaks_bytes
returns-clause-w13 c = refl

pub returns-clause-w14 : goal.returns-clause-w14
unfolding gives_fate fails found_line lines line_of breaks_bytes
returns-clause-w14 c = refl

pub returns-clause-w15 : goal.returns-clause-w15
unfolding gives_fate fails found_line lines line_of breaks_bytes
returns-clause-w15 c = refl

pub returns-clause-w16 : goal.returns-clause-w16
unfolding gives_fate fails found_line lines line_of breaks_bytes
returns-clause-w16 c = refl

pub returns-clause-w17 : goal.returns-clause-w17
unfolding gives_fate fails found_line lines line_of breaks_bytes
returns-clause-w17 c = refl

pub returns-clause-w18 : goal.returns-clause-w18
unfolding gives_fate fails found_line lines line_of breaks_bytes
returns-clause-w18 c = refl

pub returns-clause-w19 : goal.returns-clause-w19
unfolding gives_fate fails found_line lines line_of breaks_bytes
returns-clause-w19 c = refl

pub returns-clause-w20 : goal.returns-clause-w20
unfolding gives_fate fails found_line lines line_of breaks_bytes
returns-clause-w20 c = refl

pub returns-clause-w21 : goal.returns-clause-w21
unfolding gives_fate fails found_line lines line_of breaks_bytes
returns-clause-w21 c = refl

pub returns-clause-lost : goal.returns-clause-lost
unfolding gives_fate fails found_line lines line_of breaks_bytes
returns-clause-lost c = refl

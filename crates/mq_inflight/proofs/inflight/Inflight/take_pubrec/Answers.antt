use Rattle.std.proofs.Common.{◌≡◌, Bool, true, false, not, Some, None, arith, nat_le, subst}
use Rattle.std.proofs.lemmas.Bool.Decides.{nat_tests}
use Rattle.mq_rules.specs.Words.{only}
use Rattle.mq_rules.specs.Notes.{refuses}
use Rattle.mq_inflight.specs.Moving.{Moves}
use Rattle.mq_inflight.proofs.inflight.Inflight.take_pubrec.Goals as goal

pub returns-then-code-lt128 : goal.returns-then-code-lt128
returns-then-code-lt128 c = λ accepted n tested taken past m moves follows known u.
    let below = c.if-code-lt128.true in
    let refused : refuses c.args.code ≡ false = grind (arith, nat_tests, below) in
    c.in_ok-receive_pubrec.ensures accepted n tested taken past m (subst (λ b. Moves n None false (only b (Some c.args.i)) None (only (not b) (Some c.args.i))) refused moves) follows known u

pub returns : goal.returns
returns c = λ accepted n tested taken past m moves follows known u.
    let below = c.if-code-lt128.false in
    let refused : refuses c.args.code ≡ true = grind (arith, nat_tests, below) in
    c.in_ok-set_free.ensures accepted n tested taken past m (subst (λ b. Moves n None false (only b (Some c.args.i)) None (only (not b) (Some c.args.i))) refused moves) follows known u

use Rattle.std.proofs.Common.{◌≡◌, ◌++◌, ℕ, ap, codes, decimal, nat_lt, true, arith}
use Rattle.mq_display.proofs.OutgoingLaws.{puts_three}
use Rattle.mq_display.proofs.display.annotated.put_decided.Goals as goal

pub returns-then-position-decided : goal.returns-then-position-decided
returns-then-position-decided g c =
    let later : nat_lt c.args.position c.args.decided ≡ true = grind arith in
    rw later (puts_three g.W.Write.contents _ _ _ _ _ _ _ _ c.put.ensures c.put_number.ensures c.put-then-position-decided.ensures
    (ap (λ (n : ℕ). codes " (decided at event " ++ decimal n ++ codes ")") c.from.ensures))

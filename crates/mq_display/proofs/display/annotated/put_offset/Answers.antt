use Rattle.std.proofs.Common.{ℕ, ◌++◌, ap, codes, decimal}
use Rattle.mq_display.proofs.OutgoingLaws.{puts_three}
use Rattle.mq_display.proofs.display.annotated.put_offset.Goals as goal

pub returns-in-Some : goal.returns-in-Some
returns-in-Some g c =
    rw c.in-Some.is (puts_three g.W.Write.contents _ _ _ _ _ _ _ _ c.put.ensures c.put_number.ensures c.put-in-Some.ensures
    (ap (λ (n : ℕ). codes " (offset " ++ (decimal n ++ codes ")")) c.from.ensures))

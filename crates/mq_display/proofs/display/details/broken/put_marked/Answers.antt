use Rattle.std.proofs.Common.{ℕ, List, ◌∷◌, sym, ap, append-nil}
use Rattle.mq_display.specs.Details.{marked}
use Rattle.mq_display.proofs.OutgoingLaws.{puts_three}
use Rattle.mq_display.proofs.display.details.broken.put_marked.Goals as goal

pub returns : goal.returns
returns g c =
    puts_three g.W.Write.contents _ _ _ _ _ _ _ _ c.put.ensures c.put_all_digits.ensures c.put-2.ensures
    (ap (λ (l : List ℕ). 32 ∷ l) (sym (append-nil (marked c.args.bytes.now))))

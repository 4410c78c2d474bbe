use Rattle.std.proofs.Common.{◌≡◌, ℕ, List, ◌++◌, false, ap, sym, append-nil, codes, decimal, arith}
use Rattle.std.specs.Prelude.{◌==◌}
use Rattle.mq_display.proofs.OutgoingLaws.{puts_two}
use Rattle.mq_display.proofs.display.details.broken.put_mark.Goals as goal

pub returns-then-mark-at : goal.returns-then-mark-at
returns-then-mark-at g c =
    let other : (c.args.mark == c.args.at) ≡ false = grind arith in
    rw other (puts_two g.W.Write.contents _ _ _ _ _ _ c.put.ensures c.put_number.ensures (ap (λ (l : List ℕ). codes " at " ++ l) (sym (append-nil (decimal c.args.mark)))))

use Rattle.std.proofs.Common.{ℕ, List, [], ◌∷◌, ◌++◌, codes, sym, ap, append-nil}
use Rattle.mq_display.specs.ItemText.{with_spaces}
use Rattle.mq_display.proofs.OutgoingLaws.{puts_two}
use Rattle.mq_display.proofs.display.details.unfinished.put_heading.Goals as goal

pub returns : goal.returns
returns g c =
    let direction = c.args.direction.now in
    puts_two g.W.Write.contents _ _ _ (codes " unfinished ") direction (with_spaces (codes "unfinished" ∷ direction ∷ [])) c.put.ensures c.put-2.ensures
    (ap (λ (l : List ℕ). codes " unfinished " ++ l) (sym (append-nil direction)))

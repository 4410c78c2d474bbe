use Rattle.std.proofs.Common.{ℕ, List, ◌∷◌, ap, sym, append_assoc}
use Rattle.mq_display.specs.Detailing.{shown_words}
use Rattle.mq_display.specs.ItemText.{with_spaces}
use Rattle.mq_display.proofs.OutgoingLaws.{puts_four}
use Rattle.mq_display.proofs.display.details.detail.put_detail.Goals as goal

pub returns : goal.returns
returns g c =
    puts_four g.W.Write.contents _ _ _ _ _ _ _ _ _ _ c.put.ensures c.put-2.ensures c.put-3.ensures c.put_shown.ensures
    (ap (λ (l : List ℕ). 32 ∷ l) (sym (append_assoc c.args.prefix.now c.args.detail.now.name.now (with_spaces (shown_words c.args.detail.now.value)))))

use Rattle.std.proofs.Common.{◌++◌, ℕ, ap, codes, decimal}
use Rattle.mq_display.specs.Because.{words_after_event}
use Rattle.mq_display.proofs.OutgoingLaws.{puts_four}
use Rattle.mq_display.proofs.display.because.put_event.Goals as goal

pub returns : goal.returns
returns g c =
    puts_four g.W.Write.contents _ _ _ _ _ _ _ _ _ _ c.put.ensures c.put_number.ensures c.put_after_event.ensures c.put-2.ensures
    (ap (λ (n : ℕ). codes " (because of event " ++ (decimal n ++ (words_after_event c.args.rule c.args.numbers ++ codes ")"))) c.from.ensures)

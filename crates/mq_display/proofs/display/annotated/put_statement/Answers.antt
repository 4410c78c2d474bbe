use Rattle.std.proofs.Common.{◌++◌, codes}
use Rattle.mq_display.proofs.OutgoingLaws.{puts_six}
use Rattle.mq_display.proofs.display.annotated.put_statement.Goals as goal

pub returns : goal.returns
returns g c =
    puts_six g.W.Write.contents _ _ _ _ _ _ _ _ _ _ _ _ _ _ c.put.ensures c.put-2.ensures c.put-3.ensures c.put-4.ensures c.put-5.ensures c.put-6.ensures
    (λ i. codes "  fault " ++ (c.code.ensures i ++ (codes " " ++ (c.citation.ensures i ++ (codes " " ++ c.sentence.ensures i)))))

use Rattle.mq_display.proofs.DetailLaws.{puts_words}
use Rattle.mq_display.proofs.display.details.put_answer.Goals as goal

pub returns : goal.returns
returns g c = puts_words g.W.Write.contents _ _ _ _ _ c.put_properties.ensures c.put_codes.ensures

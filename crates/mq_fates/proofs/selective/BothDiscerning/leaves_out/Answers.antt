use Rattle.mq_fates.proofs.ConcernLaws.{neither}
use Rattle.mq_fates.proofs.selective.BothDiscerning.leaves_out.Goals as goal

pub returns : goal.returns
returns g c = λ places tested fate at e past h small under kept was.
    let parts = neither (g.A.Selective.concerns tested e.note) (g.B.Selective.concerns tested e.note) h in (
      c.leaves_out.ensures places.a tested fate at e past parts.0 small under kept.0 was.0,
      c.leaves_out-2.ensures places.b tested fate at e past parts.1 small under kept.1 was.1,
    )

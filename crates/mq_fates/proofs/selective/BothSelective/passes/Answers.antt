use Rattle.std.proofs.Common.{Some}
use Rattle.mq_fates.proofs.ConcernLaws.{both_pass, neither}
use Rattle.mq_fates.proofs.selective.BothSelective.passes.Goals as goal

pub returns : goal.returns
returns g c = λ tested fate at e past h under agree.
    let parts = neither (g.A.Selective.concerns tested e.note) (g.B.Selective.concerns tested e.note) h in
    both_pass (g.A.Fated.agrees c.args.self.now.a tested (Some fate)) (g.B.Fated.agrees c.args.self.now.b tested (Some fate)) g.A.Fated.judges g.B.Fated.judges tested fate at e past
    (c.passes.ensures tested fate at e past parts.0 under agree.0) (c.passes-2.ensures tested fate at e past parts.1 under agree.1)

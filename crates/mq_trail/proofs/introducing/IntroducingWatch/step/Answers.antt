use Rattle.std.proofs.Common.{◌∙◌}
use Rattle.mq_rules.specs.Under.{seen}
use Rattle.mq_trail.proofs.RestLaws.{resting-next}
use Rattle.mq_trail.proofs.introducing.IntroducingWatch.step.Goals as goal

pub returns-clause-agrees : goal.returns-clause-agrees
returns-clause-agrees g c = λ tested taken past follows takes q.
    let e = seen c.args.at c.args.note.now in (
      c.in_ok-take.ensures.agrees tested past follows.placed.0 q.0,
      c.in_ok-take.ensures.wanted ∙ q.1,
      resting-next c.args.self.now.rests c.take.new.self g.K.Wanted.wanted tested.role e past c.args.at.position c.connack.result follows.placed.0 (c.connack.ensures tested past q.0) c.take.ensures q.2,
    )

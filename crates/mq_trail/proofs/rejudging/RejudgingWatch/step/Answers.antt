use Rattle.std.proofs.Common.{refl}
use Rattle.mq_rules.specs.Under.{seen}
use Rattle.mq_rules.proofs.Exports.{gains_nothing}
use Rattle.mq_trail.proofs.RejudgingLaws.{found-next}
use Rattle.mq_trail.proofs.rejudging.RejudgingWatch.step.Goals as goal

pub returns-clause-agrees : goal.returns-clause-agrees
returns-clause-agrees c = λ tested taken past follows takes q. (
  c.in_ok-step.ensures.agrees tested taken past follows takes q.0,
  found-next c.args.self.now.events c.args.at.position tested (seen c.args.at c.args.note.now) past c.args.self.now.faults c.step.new.faults follows.placed.0
      (c.in_ok-step.ensures.grows tested taken past follows takes q.0) q.1,
)

pub returns-clause-grows : goal.returns-clause-grows
returns-clause-grows c = λ tested taken past follows takes q. gains_nothing _ tested _ _ _ (λ k r. refl)

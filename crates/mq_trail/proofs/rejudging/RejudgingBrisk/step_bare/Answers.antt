use Rattle.std.proofs.Common.{refl}
use Rattle.mq_rules.specs.Notes.{note_of_bare}
use Rattle.mq_rules.specs.Under.{seen}
use Rattle.mq_rules.proofs.Exports.{gains_nothing}
use Rattle.mq_trail.proofs.RejudgingLaws.{found-next}
use Rattle.mq_trail.proofs.rejudging.RejudgingBrisk.step_bare.Goals as goal

pub returns-clause-agrees : goal.returns-clause-agrees
returns-clause-agrees c = λ tested taken past follows takes q. (
  c.in_ok-step_bare.ensures.agrees tested taken past follows takes q.0,
  found-next c.args.self.now.events c.args.place.position tested (seen c.args.place (note_of_bare c.args.bare)) past c.args.self.now.faults c.step_bare.new.faults follows.placed.0
      (c.in_ok-step_bare.ensures.grows tested taken past follows takes q.0) q.1,
)

pub returns-clause-grows : goal.returns-clause-grows
returns-clause-grows c = λ tested taken past follows takes q. gains_nothing _ tested _ _ _ (λ k r. refl)

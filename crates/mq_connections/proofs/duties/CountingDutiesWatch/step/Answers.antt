use Rattle.std.proofs.Common.{◌∷◌, sym, subst, ◌∙◌}
use Rattle.mq_rules.specs.Connections.{latest_fate}
use Rattle.mq_rules.specs.Under.{seen}
use Rattle.mq_rules.proofs.Exports.{on_err}
use Rattle.mq_connections.proofs.DutiesLaws.{Counted, counts-next, counts-unbound, duties-gain, duties-next, duties-within, unbound-gains, unbound-stays}
use Rattle.mq_connections.proofs.UnfinishedLaws.{received-small}
use Rattle.mq_connections.proofs.duties.CountingDutiesWatch.step.Goals as goal

pub returns-then-not-self-clause-agrees : goal.returns-then-not-self-clause-agrees
returns-then-not-self-clause-agrees c = λ tested taken past follows takes here.
    let off = c.if-not-self.true in (
      unbound-stays c.args.self.now.duties tested taken (latest_fate tested.role (seen c.args.at c.args.note.now ∷ past)) (seen c.args.at c.args.note.now) past off here.0,
      counts-unbound c.args.self.now.places tested (seen c.args.at c.args.note.now) past (sym here.0.same_bound ∙ off) here.1,
    )

pub returns-then-not-self-clause-grows : goal.returns-then-not-self-clause-grows
returns-then-not-self-clause-grows c = λ tested taken past follows takes here.
    unbound-gains tested (seen c.args.at c.args.note.now) past c.args.faults.now (sym here.0.same_bound ∙ c.if-not-self.true)

pub returns-in_err-take-clause-memory : goal.returns-in_err-take-clause-memory
returns-in_err-take-clause-memory c =
    on_err c.from_residual.result _ (λ tested taken past follows takes here.
    duties-within c.args.self.now.duties tested taken (seen c.args.at c.args.note.now) past c.args.faults.now c.take.new.faults c.if-not-self.false follows here.0 c.in_err-take.ensures.memory)

pub returns-clause-agrees : goal.returns-clause-agrees
returns-clause-agrees c = λ tested taken past follows takes here. (
  duties-next c.args.self.now.duties c.take.new.self tested taken (latest_fate tested.role (seen c.args.at c.args.note.now ∷ past)) (seen c.args.at c.args.note.now) past c.if-not-self.false takes here.0
      c.in_ok-take.ensures.bound c.in_ok-take.ensures.talk c.in_ok-take.ensures.terms c.in_ok-take.ensures.unfinished,
  counts-next c.args.self.now.duties c.args.self.now.places c.count.new.self tested taken (seen c.args.at c.args.note.now) past c.if-not-self.false follows takes here.0
      (received-small c.args.self.now.duties.unfinished c.take.new.self.unfinished c.args.note.now c.in_ok-take.ensures.unfinished) here.1
      (subst (λ f. Counted c.args.self.now.duties.talk c.args.self.now.places c.count.new.self (seen c.args.at c.args.note.now) f) c.find-found.ensures
      (record { c24 = c.count.ensures.c24; d01 = c.count.ensures.d01; d02 = c.count.ensures.d02; d03 = c.count.ensures.d03; d05 = c.count.ensures.d05 })),
)

pub returns-clause-grows : goal.returns-clause-grows
returns-clause-grows c = λ tested taken past follows takes here.
    duties-gain c.args.self.now.duties tested taken (seen c.args.at c.args.note.now) past c.args.faults.now c.take.new.faults c.if-not-self.false follows here.0 c.in_ok-take.ensures.ok

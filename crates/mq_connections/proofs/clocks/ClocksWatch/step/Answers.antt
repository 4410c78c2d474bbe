use Rattle.std.proofs.Common.{◌∷◌, sym, ◌∙◌}
use Rattle.mq_rules.specs.Connections.{latest_fate}
use Rattle.mq_rules.specs.Under.{seen}
use Rattle.mq_rules.proofs.Exports.{on_err}
use Rattle.mq_connections.proofs.ClocksLaws.{clock-gains, clock-within, clocks-next, untimed-gains, untimed-stays}
use Rattle.mq_connections.proofs.clocks.ClocksWatch.step.Goals as goal

pub returns-then-not-self-clause-agrees : goal.returns-then-not-self-clause-agrees
returns-then-not-self-clause-agrees c = λ tested taken past follows takes here.
    let e = seen c.args.at c.args.note.now in
    untimed-stays c.args.self.now tested taken (latest_fate tested.role (e ∷ past)) e past c.if-not-self.true here

pub returns-then-not-self-clause-grows : goal.returns-then-not-self-clause-grows
returns-then-not-self-clause-grows c = λ tested taken past follows takes here.
    untimed-gains tested (seen c.args.at c.args.note.now) past c.args.faults.now (sym here.same_times ∙ c.if-not-self.true)

pub returns-in_err-take-clause-memory : goal.returns-in_err-take-clause-memory
returns-in_err-take-clause-memory c =
    on_err c.from_residual.result _ (λ tested taken past follows takes here.
    clock-within c.args.self.now tested taken (seen c.args.at c.args.note.now) past c.args.faults.now c.take.new.faults c.if-not-self.false follows here c.in_err-take.ensures.memory)

pub returns-clause-agrees : goal.returns-clause-agrees
returns-clause-agrees c = λ tested taken past follows takes here.
    let e = seen c.args.at c.args.note.now in
    clocks-next c.args.self.now c.take.new.self tested taken (latest_fate tested.role (e ∷ past)) e past here c.in_ok-take.ensures.kept

pub returns-clause-grows : goal.returns-clause-grows
returns-clause-grows c = λ tested taken past follows takes here.
    clock-gains c.args.self.now tested taken (seen c.args.at c.args.note.now) past c.args.faults.now c.take.new.faults c.if-not-self.false follows here c.in_ok-take.ensures.ok

use Rattle.std.proofs.Common.{◌∷◌, sym, ap, ◌∙◌}
use Rattle.mq_rules.specs.Connections.{latest_fate}
use Rattle.mq_rules.specs.Under.{seen}
use Rattle.mq_rules.proofs.Exports.{on_err}
use Rattle.mq_connections.proofs.MannersLaws.{further-gains, further-within, manners-next, many-next, unasked-gains, unasked-stays}
use Rattle.mq_connections.proofs.manners.MannersWatch.step.Goals as goal

pub returns-then-not-self-clause-agrees : goal.returns-then-not-self-clause-agrees
returns-then-not-self-clause-agrees c = λ tested taken past follows takes here.
    unasked-stays c.args.self.now tested taken (latest_fate tested.role (seen c.args.at c.args.note.now ∷ past)) (seen c.args.at c.args.note.now) past c.if-not-self.true here

pub returns-then-not-self-clause-grows : goal.returns-then-not-self-clause-grows
returns-then-not-self-clause-grows c = λ tested taken past follows takes here.
    unasked-gains tested (seen c.args.at c.args.note.now) past c.args.faults.now (sym here.same_further ∙ c.if-not-self.true)

pub returns-in_err-take-clause-memory : goal.returns-in_err-take-clause-memory
returns-in_err-take-clause-memory c =
    on_err c.from_residual.result _ (λ tested taken past follows takes here.
    further-within c.args.self.now tested taken (seen c.args.at c.args.note.now) past c.args.faults.now c.take.new.faults c.if-not-self.false follows here c.in_err-take.ensures.memory)

pub returns-clause-agrees : goal.returns-clause-agrees
returns-clause-agrees c = λ tested taken past follows takes here.
    let kept = c.in_ok-take.ensures.kept in
    manners-next c.args.self.now c.take.new.self tested taken (latest_fate tested.role (seen c.args.at c.args.note.now ∷ past)) (seen c.args.at c.args.note.now) past here
    (ap (λ m. m.role) kept) (ap (λ m. m.further) kept) (λ asked. ap (λ m. m.connect) kept) (λ asked. ap (λ m. m.connack) kept) (λ asked. ap (λ m. m.has_heard_connack) kept) (λ asked. ap (λ m. m.method) kept)
    (many-next c.args.self.now c.take.new.self tested taken (seen c.args.at c.args.note.now) past here c.if-not-self.false (ap (λ m. m.method) kept))

pub returns-clause-grows : goal.returns-clause-grows
returns-clause-grows c = λ tested taken past follows takes here.
    further-gains c.args.self.now tested taken (seen c.args.at c.args.note.now) past c.args.faults.now c.take.new.faults c.if-not-self.false follows here c.in_ok-take.ensures.ok

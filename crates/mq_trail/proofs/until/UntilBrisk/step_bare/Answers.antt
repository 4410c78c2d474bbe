use Rattle.std.proofs.Common.{false, refl, ◌∷◌, ◌+◌, length}
use Rattle.mq_rules.specs.Connections.{latest_fate}
use Rattle.mq_rules.specs.Notes.{note_of_bare}
use Rattle.mq_rules.specs.Under.{seen}
use Rattle.mq_rules.proofs.Exports.{gains_nothing, gains_same, on_err, within_same}
use Rattle.mq_trail.proofs.UntilLaws.{seen-all, seen-next, seen-still}
use Rattle.mq_trail.proofs.until.UntilBrisk.step_bare.Goals as goal

pub returns-then-place-self-clause-agrees : goal.returns-then-place-self-clause-agrees
returns-then-place-self-clause-agrees g c = λ tested taken past follows on was.
    seen-still g.W.Watch.agrees g.K.Wanted.wanted tested c.args.self.now.last c.args.place.position c.args.self.now.watcher (seen c.args.place (note_of_bare c.args.bare)) past follows.placed.0 c.if-place-self.true was

pub returns-then-place-self-clause-grows : goal.returns-then-place-self-clause-grows
returns-then-place-self-clause-grows g c = λ tested taken past follows on was.
    gains_nothing (λ k r. false) tested (seen c.args.place (note_of_bare c.args.bare) ∷ past) (length past + 1) c.args.faults.now (λ k r. refl)

pub returns-clause-agrees : goal.returns-clause-agrees
returns-clause-agrees g c = λ tested taken past follows on was.
    let s = c.args.self.now in
    let e = seen c.args.place (note_of_bare c.args.bare) in
    let fate = latest_fate tested.role past in
    seen-next g.W.Watch.agrees g.K.Wanted.wanted tested s.last c.args.place.position s.watcher c.step_apart.new.watcher e past follows.placed.0 c.if-place-self.false was
    (c.in_ok-step_apart.ensures.agrees tested fate past follows (g.met.W.Explainer.takes_any tested fate e past on)
    (seen-all g.W.Watch.agrees g.K.Wanted.wanted tested s.last c.args.place.position s.watcher past follows.placed.0 c.if-place-self.false was))

pub returns-clause-grows : goal.returns-clause-grows
returns-clause-grows g c = λ tested taken past follows on was.
    let s = c.args.self.now in
    let e = seen c.args.place (note_of_bare c.args.bare) in
    let fate = latest_fate tested.role past in
    gains_same (g.W.Watch.adds tested e past) (λ k r. false) tested (e ∷ past) (length past + 1) c.args.faults.now c.step_apart.new.faults (g.met.W.Explainer.adds_none tested e past)
    (c.in_ok-step_apart.ensures.grows tested fate past follows (g.met.W.Explainer.takes_any tested fate e past on)
    (seen-all g.W.Watch.agrees g.K.Wanted.wanted tested s.last c.args.place.position s.watcher past follows.placed.0 c.if-place-self.false was))

pub returns-in_err-step_apart-clause-memory : goal.returns-in_err-step_apart-clause-memory
returns-in_err-step_apart-clause-memory g c =
    on_err c.from_residual.result _ (λ tested taken past follows on was.
    let s = c.args.self.now in
    let e = seen c.args.place (note_of_bare c.args.bare) in
    let fate = latest_fate tested.role past in
    within_same (g.W.Watch.adds tested e past) (λ k r. false) tested (e ∷ past) (length past + 1) c.args.faults.now c.step_apart.new.faults (g.met.W.Explainer.adds_none tested e past)
    (c.in_err-step_apart.ensures.memory tested fate past follows (g.met.W.Explainer.takes_any tested fate e past on)
    (seen-all g.W.Watch.agrees g.K.Wanted.wanted tested s.last c.args.place.position s.watcher past follows.placed.0 c.if-place-self.false was)))

use Rattle.std.proofs.Common.{◌≡◌, ◌∷◌, arith, ap, subst, sym, ◌∙◌}
use Rattle.mq_rules.specs.Notes.{note_in, note_of_bare}
use Rattle.mq_rules.specs.Under.{seen, fate_before}
use Rattle.mq_rules.proofs.Exports.{bare-closed, on_err}
use Rattle.mq_subscriptions.specs.contracts.subs.DeliveriesFated.TheImpl as fated
use Rattle.mq_fates.proofs.Exports.{given, given-gains, given-within}
use Rattle.mq_subscriptions.proofs.subs.DeliveriesFated.fated.Goals as goal

pub returns-in-Kept-clause-agrees : goal.returns-in-Kept-clause-agrees
returns-in-Kept-clause-agrees g c = rw (sym c.as_ref.ensures ∙ ap note_in c.in-Kept.is) c.take_noted.ensures.agrees

pub returns-in-Kept-clause-grows : goal.returns-in-Kept-clause-grows
returns-in-Kept-clause-grows g c = rw (sym c.as_ref.ensures ∙ ap note_in c.in-Kept.is) c.take_noted.ensures.grows

pub returns-in-Kept-clause-memory : goal.returns-in-Kept-clause-memory
returns-in-Kept-clause-memory g c = rw (sym c.as_ref.ensures ∙ ap note_in c.in-Kept.is) c.take_noted.ensures.memory

pub returns-then-decided-at-clause-agrees : goal.returns-then-decided-at-clause-agrees
returns-then-decided-at-clause-agrees g c = rw (sym c.as_ref.ensures ∙ ap note_in c.in-Bare.is) (λ tested past under q.
    let e = seen c.args.at (note_of_bare c.in-Bare.bare) in
    let own : c.args.decided ≡ c.args.at.position = omega (arith, c.if-decided-at.true) in
    let k = given tested c.args.fate c.args.decided e past under own (bare-closed c.in-Bare.bare) in
    subst (λ o. (fated.ghosts).agrees c.take_bare.new.self tested o (e ∷ past)) k.after (c.in_ok-take_bare-in-Bare.ensures.agrees tested (fate_before tested c.args.fate e past) past under.follows k.known q))

pub returns-then-decided-at-clause-grows : goal.returns-then-decided-at-clause-grows
returns-then-decided-at-clause-grows g c = rw (sym c.as_ref.ensures ∙ ap note_in c.in-Bare.is) (λ tested past under q.
    let e = seen c.args.at (note_of_bare c.in-Bare.bare) in
    let own : c.args.decided ≡ c.args.at.position = omega (arith, c.if-decided-at.true) in
    let k = given tested c.args.fate c.args.decided e past under own (bare-closed c.in-Bare.bare) in
    given-gains tested c.args.fate (fated.ghosts).judges c.args.decided e past c.args.faults.now c.take_bare.new.faults k (c.in_ok-take_bare-in-Bare.ensures.grows tested (fate_before tested c.args.fate e past) past under.follows k.known q))

pub returns-in_err-take_bare-in-Bare-clause-memory : goal.returns-in_err-take_bare-in-Bare-clause-memory
returns-in_err-take_bare-in-Bare-clause-memory g c = rw (sym c.as_ref.ensures ∙ ap note_in c.in-Bare.is) (on_err c.from_residual.result _ (λ tested past under q.
    let e = seen c.args.at (note_of_bare c.in-Bare.bare) in
    let own : c.args.decided ≡ c.args.at.position = omega (arith, c.if-decided-at.true) in
    let k = given tested c.args.fate c.args.decided e past under own (bare-closed c.in-Bare.bare) in
    given-within tested c.args.fate (fated.ghosts).judges c.args.decided e past c.args.faults.now c.take_bare.new.faults k (c.in_err-take_bare-in-Bare.ensures.memory tested (fate_before tested c.args.fate e past) past under.follows k.known q)))

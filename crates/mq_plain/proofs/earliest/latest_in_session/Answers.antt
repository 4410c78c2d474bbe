use Rattle.std.proofs.Common.{rules, ◌≡◌, [], ◌∷◌, ◌++◌, sym, ap, ◌∙◌}
use Rattle.std.specs.Prelude.{reverse}
use Rattle.std.proofs.lemmas.List.{reverse-append}
use Rattle.mq_rules.specs.Moments.{note, latest}
use Rattle.mq_rules.specs.Connections.{session}
use Rattle.mq_plain.proofs.LookbackLaws.{no_events, latest-on, latest-here, latest-begun}
use Rattle.mq_plain.proofs.earliest.latest_in_session.Goals as goal

pub loop-event-preserved : goal.loop-event-preserved
loop-event-preserved g c =
    let e = c.in-Some.event.now in
    let rest = c.in-Some.rest.now in
    let test = g.T.NoteTest.test c.args.test.now in
    let parts : c.loop-event.earlier.now ≡ rest ++ e ∷ [] = search rules in
    let front : reverse c.loop-event.earlier.now ≡ e ∷ reverse rest = ap reverse parts ∙ reverse-append rest (e ∷ []) in
    sym (ap (λ es. latest (λ m. test (note m)) (session c.args.role c.loop-event.fate es)) front
    ∙ latest-on test c.args.role c.loop-event.fate c.fate_before-fate.result e (reverse rest) c.passes_in_session.result c.begins_at.result c.passes_in_session.ensures c.if-passes_in_session.false c.begins_at.ensures c.if-begins_at.false c.fate_before-fate.ensures)
    ∙ c.loop-event.invariant

pub returns-then-passes_in_session : goal.returns-then-passes_in_session
returns-then-passes_in_session g c =
    let e = c.in-Some.event.now in
    let rest = c.in-Some.rest.now in
    let test = g.T.NoteTest.test c.args.test.now in
    let parts : c.loop-event.earlier.now ≡ rest ++ e ∷ [] = search rules in
    let front : reverse c.loop-event.earlier.now ≡ e ∷ reverse rest = ap reverse parts ∙ reverse-append rest (e ∷ []) in
    sym (sym c.loop-event.invariant ∙ ap (λ es. latest (λ m. test (note m)) (session c.args.role c.loop-event.fate es)) front
    ∙ latest-here test c.args.role c.loop-event.fate e (reverse rest) c.passes_in_session.result c.passes_in_session.ensures c.if-passes_in_session.true)

pub returns-then-begins_at : goal.returns-then-begins_at
returns-then-begins_at g c =
    let e = c.in-Some.event.now in
    let rest = c.in-Some.rest.now in
    let test = g.T.NoteTest.test c.args.test.now in
    let parts : c.loop-event.earlier.now ≡ rest ++ e ∷ [] = search rules in
    let front : reverse c.loop-event.earlier.now ≡ e ∷ reverse rest = ap reverse parts ∙ reverse-append rest (e ∷ []) in
    sym (sym c.loop-event.invariant ∙ ap (λ es. latest (λ m. test (note m)) (session c.args.role c.loop-event.fate es)) front
    ∙ latest-begun test c.args.role c.loop-event.fate e (reverse rest) c.passes_in_session.result c.begins_at.result c.passes_in_session.ensures c.if-passes_in_session.false c.begins_at.ensures c.if-begins_at.true)

pub returns : goal.returns
returns g c =
    let test = g.T.NoteTest.test c.args.test.now in
    let none : c.loop-event.earlier.now ≡ [] = no_events c.loop-event.earlier.now (search rules) in
    sym (sym c.loop-event.invariant ∙ ap (λ es. latest (λ m. test (note m)) (session c.args.role c.loop-event.fate (reverse es))) none)

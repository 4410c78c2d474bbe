use Rattle.std.proofs.Common.{rules, ◌≡◌, ◌&&◌, [], ◌∷◌, ◌++◌, None, sym, ap, ◌∙◌, Bool, refl}
use Rattle.std.specs.Prelude.{reverse}
use Rattle.std.proofs.lemmas.List.{reverse-append}
use Rattle.mq_rules.specs.Moments.{note, since}
use Rattle.mq_rules.specs.Connections.{session, has_session}
use Rattle.mq_plain.specs.Lookback.{answer_by}
use Rattle.mq_plain.proofs.LookbackLaws.{session_on}
use Rattle.mq_plain.proofs.session.since_in_session.Goals as goal

pub loop-event-preserved : goal.loop-event-preserved
loop-event-preserved g c =
    let e = c.in-Some.event.now in
    let rest = c.in-Some.rest.now in
    let starts = g.S.NoteTest.test c.args.starts.now in
    let ends = g.E.NoteTest.test c.args.ends.now in
    let parts : c.loop-event.earlier.now ≡ rest ++ e ∷ [] = search rules in
    let front : reverse c.loop-event.earlier.now ≡ e ∷ reverse rest = ap reverse parts ∙ reverse-append rest (e ∷ []) in
    let is_in : Bool = has_session c.args.role c.loop-event.fate e (reverse rest) in
    let none : answer_by (is_in && starts e.note) (is_in && ends e.note) ≡ None = sym c.answer_at.ensures ∙ c.in_default-answer_at.is in
    sym (ap (λ es. since (λ m. starts (note m)) (λ m. ends (note m)) (session c.args.role c.loop-event.fate es)) front
    ∙ session_on starts ends c.args.role c.loop-event.fate c.fate_before-fate.result e (reverse rest) is_in c.begins_at.result
    refl none c.begins_at.ensures c.if-begins_at.false c.fate_before-fate.ensures)
    ∙ c.loop-event.invariant

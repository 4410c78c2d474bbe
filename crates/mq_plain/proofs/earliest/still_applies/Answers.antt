use Rattle.std.proofs.Common.{rules, ◌≡◌, ◌&&◌, [], ◌∷◌, ◌++◌, None, sym, ap, ◌∙◌}
use Rattle.std.specs.Prelude.{reverse}
use Rattle.std.proofs.lemmas.List.{reverse-append}
use Rattle.mq_rules.specs.Moments.{newest, note, is_same, since}
use Rattle.mq_rules.specs.Connections.{session, any_accepted}
use Rattle.mq_plain.specs.Finding.{moment_of}
use Rattle.mq_plain.specs.Lookback.{answer_by}
use Rattle.mq_plain.proofs.LookbackLaws.{session_on-moments, any_back}
use Rattle.mq_plain.proofs.earliest.still_applies.Goals as goal

pub loop-event-preserved : goal.loop-event-preserved
loop-event-preserved g c =
    let e = c.in-Some.event.now in
    let rest = c.in-Some.rest.now in
    let starts = is_same (moment_of c.args.found) in
    let ends = g.E.NoteTest.test c.args.ends.now in
    let parts : c.loop-event.earlier.now ≡ rest ++ e ∷ [] = search rules in
    let front : reverse c.loop-event.earlier.now ≡ e ∷ reverse rest = ap reverse parts ∙ reverse-append rest (e ∷ []) in
    let known : c.loop-event.any ≡ any_accepted c.args.role c.loop-event.fate (e ∷ reverse rest) = c.loop-event.invariant.known ∙ ap (any_accepted c.args.role c.loop-event.fate) front in
    let none : answer_by (c.is_in_known_session-is_in.result && starts (newest e (reverse rest))) (c.is_in_known_session-is_in.result && ends e.note) ≡ None = sym c.answer_from.ensures ∙ c.in_default-answer_from.is in
    record {
      rest = sym (ap (λ es. since starts (λ m. ends (note m)) (session c.args.role c.loop-event.fate es)) front
          ∙ session_on-moments starts (λ m. ends (note m)) c.args.role c.loop-event.fate c.fate_before-fate.result e (reverse rest) c.is_in_known_session-is_in.result c.begins_at.result
          (c.is_in_known_session-is_in.ensures known) none c.begins_at.ensures c.if-begins_at.false c.fate_before-fate.ensures)
          ∙ c.loop-event.invariant.rest;
      known = any_back c.args.role c.loop-event.fate c.fate_before-fate.result c.loop-event.any c.any_before-any.result e (reverse rest) known c.any_before-any.ensures c.fate_before-fate.ensures;
    }

use Rattle.std.proofs.Common.{rules, ◌≡◌, ◌&&◌, refl, false, [], ◌∷◌, ◌++◌, Some, sym, ap, subst, ◌∙◌}
use Rattle.std.specs.Prelude.{reverse}
use Rattle.std.proofs.lemmas.List.{reverse-append, length-reverse}
use Rattle.mq_rules.specs.declared.fate.Fate.TheVariants.{Resumed}
use Rattle.mq_rules.specs.Words.{only}
use Rattle.mq_rules.specs.Notes.{opener_of}
use Rattle.mq_rules.specs.Moments.{Moment, newest}
use Rattle.mq_plain.specs.Owing.{covers, is_owed}
use Rattle.mq_plain.specs.Tables.{at}
use Rattle.mq_plain.proofs.LookbackLaws.{no_events}
use Rattle.mq_plain.proofs.OwingLaws.{owed-candidate, IsWalked, walked-start, walked-step, walked-begun, walked-end}
use Rattle.mq_plain.proofs.owing.owed_in_session.Goals as goal

pub loop-event-init : goal.loop-event-init
loop-event-init c = λ placed.
    let past = reverse c.args.before.now in
    subst (IsWalked (covers c.args.role c.args.excuse (reverse c.args.before.now)) (at c.args.again.now) c.args.role past (Some Resumed) past (at c.in_ok-moved.moved) (at c.in_ok-confirmed.confirmed)) (sym c.new-places.ensures.items)
    (walked-start (covers c.args.role c.args.excuse (reverse c.args.before.now)) (at c.args.again.now) c.args.role past (at c.in_ok-moved.moved) (at c.in_ok-confirmed.confirmed) c.in_ok-moved.ensures c.in_ok-confirmed.ensures)

pub returns-then-begins_at : goal.returns-then-begins_at
returns-then-begins_at c = λ placed.
    let e = c.in-Some.event.now in
    let rest = c.in-Some.rest.now in
    let past = reverse c.args.before.now in
    let moved = at c.loop-event.moved in
    let confirmed = at c.loop-event.confirmed in
    let parts : c.loop-event.earlier.now ≡ rest ++ e ∷ [] = search rules in
    let front : reverse c.loop-event.earlier.now ≡ e ∷ reverse rest = ap reverse parts ∙ reverse-append rest (e ∷ []) in
    let m : Moment = newest e (reverse rest) in
    let opener = only c.is_accepted-is_in.result (opener_of e.note) in
    let named : c.only_if-opener.result ≡ opener = c.only_if-opener.ensures ∙ ap (only c.is_accepted-is_in.result) c.opener.ensures in
    let long = length-reverse rest in
    let excused : c.covers_owed-is_excused.result ≡ (c.is_owed-is_candidate.result && covers c.args.role c.args.excuse past m) = c.covers_owed-is_excused.ensures m refl long in
    let candidate : c.is_owed-is_candidate.result ≡ is_owed false (at c.args.again.now) moved confirmed opener = c.is_owed-is_candidate.ensures ∙ ap (is_owed false (at c.args.again.now) moved confirmed) named in
    let owed : c.is_owed-is_due.result ≡ is_owed (covers c.args.role c.args.excuse past m) (at c.args.again.now) moved confirmed opener
    = c.is_owed-is_due.ensures ∙ ap (is_owed c.covers_owed-is_excused.result (at c.args.again.now) moved confirmed) named
    ∙ ap (λ l. is_owed l (at c.args.again.now) moved confirmed opener) (excused ∙ ap (λ b. b && covers c.args.role c.args.excuse past m) candidate)
    ∙ owed-candidate (covers c.args.role c.args.excuse past m) (at c.args.again.now) moved confirmed opener in
    walked-begun (covers c.args.role c.args.excuse (reverse c.args.before.now)) (at c.args.again.now) c.args.role past c.loop-event.fate e (reverse rest) moved confirmed c.loop-event.places.items c.push_if.new.places.items
    c.is_accepted-is_in.result c.is_owed-is_due.result c.begins_at.result placed c.is_accepted-is_in.ensures owed c.in_ok-push_if.ensures c.begins_at.ensures c.if-begins_at.true
    (subst (λ es. IsWalked (covers c.args.role c.args.excuse (reverse c.args.before.now)) (at c.args.again.now) c.args.role past c.loop-event.fate es moved confirmed c.loop-event.places.items) front (c.loop-event.invariant placed))

pub loop-event-preserved : goal.loop-event-preserved
loop-event-preserved c = λ placed.
    let e = c.in-Some.event.now in
    let rest = c.in-Some.rest.now in
    let past = reverse c.args.before.now in
    let moved = at c.loop-event.moved in
    let confirmed = at c.loop-event.confirmed in
    let parts : c.loop-event.earlier.now ≡ rest ++ e ∷ [] = search rules in
    let front : reverse c.loop-event.earlier.now ≡ e ∷ reverse rest = ap reverse parts ∙ reverse-append rest (e ∷ []) in
    let m : Moment = newest e (reverse rest) in
    let opener = only c.is_accepted-is_in.result (opener_of e.note) in
    let named : c.only_if-opener.result ≡ opener = c.only_if-opener.ensures ∙ ap (only c.is_accepted-is_in.result) c.opener.ensures in
    let long = length-reverse rest in
    let excused : c.covers_owed-is_excused.result ≡ (c.is_owed-is_candidate.result && covers c.args.role c.args.excuse past m) = c.covers_owed-is_excused.ensures m refl long in
    let candidate : c.is_owed-is_candidate.result ≡ is_owed false (at c.args.again.now) moved confirmed opener = c.is_owed-is_candidate.ensures ∙ ap (is_owed false (at c.args.again.now) moved confirmed) named in
    let owed : c.is_owed-is_due.result ≡ is_owed (covers c.args.role c.args.excuse past m) (at c.args.again.now) moved confirmed opener
    = c.is_owed-is_due.ensures ∙ ap (is_owed c.covers_owed-is_excused.result (at c.args.again.now) moved confirmed) named
    ∙ ap (λ l. is_owed l (at c.args.again.now) moved confirmed opener) (excused ∙ ap (λ b. b && covers c.args.role c.args.excuse past m) candidate)
    ∙ owed-candidate (covers c.args.role c.args.excuse past m) (at c.args.again.now) moved confirmed opener in
    walked-step (covers c.args.role c.args.excuse (reverse c.args.before.now)) (at c.args.again.now) c.args.role past c.loop-event.fate c.fate_before-fate.result e (reverse rest) moved confirmed (at c.mark_moved.new.moved)
    (at c.mark_confirmed.new.confirmed) c.loop-event.places.items c.push_if.new.places.items c.is_accepted-is_in.result c.is_owed-is_due.result c.begins_at.result
    placed c.is_accepted-is_in.ensures owed c.in_ok-push_if.ensures c.begins_at.ensures c.if-begins_at.false c.fate_before-fate.ensures c.mark_moved.ensures c.mark_confirmed.ensures
    (subst (λ es. IsWalked (covers c.args.role c.args.excuse (reverse c.args.before.now)) (at c.args.again.now) c.args.role past c.loop-event.fate es moved confirmed c.loop-event.places.items) front (c.loop-event.invariant placed))

pub returns : goal.returns
returns c = λ placed.
    let past = reverse c.args.before.now in
    let none : c.loop-event.earlier.now ≡ [] = no_events c.loop-event.earlier.now (search rules) in
    walked-end (covers c.args.role c.args.excuse (reverse c.args.before.now)) (at c.args.again.now) c.args.role past c.loop-event.fate (at c.loop-event.moved) (at c.loop-event.confirmed) c.loop-event.places.items
    (subst (λ es. IsWalked (covers c.args.role c.args.excuse (reverse c.args.before.now)) (at c.args.again.now) c.args.role past c.loop-event.fate (reverse es) (at c.loop-event.moved) (at c.loop-event.confirmed) c.loop-event.places.items) none (c.loop-event.invariant placed))

use Rattle.std.proofs.Common.{rules, ◌≡◌, [], ◌∷◌, ◌++◌, Some, None, sym, ap, ◌∙◌, true, false, nat_lt}
use Rattle.std.specs.Prelude.{reverse}
use Rattle.std.proofs.lemmas.List.{reverse-append}
use Rattle.mq_rules.specs.Notes.{is_open}
use Rattle.mq_rules.specs.Connections.{connection}
use Rattle.mq_rules.specs.ReceiveMaximum.{is_unfinished}
use Rattle.mq_plain.specs.Excess.{counts_one, different, room_after, with_event}
use Rattle.mq_plain.proofs.LookbackLaws.{no_events}
use Rattle.mq_plain.proofs.ExcessLaws.{back-left, back-none, back-open, none-left}
use Rattle.mq_plain.proofs.further.excess.exceeds_earlier.Goals as goal

pub returns-in_default-room_after : goal.returns-in_default-room_after
returns-in_default-room_after c =
    let e = c.in-Some.here.now in
    let rest = c.in-Some.rest.now in
    let test = is_unfinished (with_event c.args.event.now (reverse c.args.before.now)) in
    let room = c.loop-here.room in
    let parts : c.loop-here.earlier.now ≡ rest ++ e ∷ [] = search rules in
    let front : reverse c.loop-here.earlier.now ≡ e ∷ reverse rest = ap reverse parts ∙ reverse-append rest (e ∷ []) in
    let left : room_after room (counts_one test (connection (reverse rest)) e.note) ≡ None = ap (room_after room) (sym c.counts_one.ensures) ∙ sym c.room_after.ensures ∙ c.in_default-room_after.is in
    back-none test e (reverse rest) room left ∙ ap (λ es. nat_lt room (different test (connection es))) (sym front) ∙ c.loop-here.invariant

pub returns-then-is_open : goal.returns-then-is_open
returns-then-is_open c =
    let e = c.in-Some.here.now in
    let rest = c.in-Some.rest.now in
    let test = is_unfinished (with_event c.args.event.now (reverse c.args.before.now)) in
    let room = c.loop-here.room in
    let parts : c.loop-here.earlier.now ≡ rest ++ e ∷ [] = search rules in
    let front : reverse c.loop-here.earlier.now ≡ e ∷ reverse rest = ap reverse parts ∙ reverse-append rest (e ∷ []) in
    let opens : is_open e.note ≡ true = search rules in
    back-open test e (reverse rest) room opens ∙ ap (λ es. nat_lt room (different test (connection es))) (sym front) ∙ c.loop-here.invariant

pub loop-here-preserved : goal.loop-here-preserved
loop-here-preserved c =
    let e = c.in-Some.here.now in
    let rest = c.in-Some.rest.now in
    let test = is_unfinished (with_event c.args.event.now (reverse c.args.before.now)) in
    let room = c.loop-here.room in
    let parts : c.loop-here.earlier.now ≡ rest ++ e ∷ [] = search rules in
    let front : reverse c.loop-here.earlier.now ≡ e ∷ reverse rest = ap reverse parts ∙ reverse-append rest (e ∷ []) in
    let left : room_after room (counts_one test (connection (reverse rest)) e.note) ≡ Some c.in-Some-room_after.left = ap (room_after room) (sym c.counts_one.ensures) ∙ sym c.room_after.ensures ∙ c.in-Some-room_after.is in
    let closed : is_open e.note ≡ false = search rules in
    back-left test e (reverse rest) room c.in-Some-room_after.left left closed ∙ ap (λ es. nat_lt room (different test (connection es))) (sym front) ∙ c.loop-here.invariant

pub returns : goal.returns
returns c =
    let test = is_unfinished (with_event c.args.event.now (reverse c.args.before.now)) in
    let none : c.loop-here.earlier.now ≡ [] = no_events c.loop-here.earlier.now (search rules) in
    none-left test c.loop-here.room ∙ ap (λ es. nat_lt c.loop-here.room (different test (connection (reverse es)))) (sym none) ∙ c.loop-here.invariant

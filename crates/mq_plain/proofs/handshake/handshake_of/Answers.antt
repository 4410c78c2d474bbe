use Rattle.std.proofs.Common.{rules, ◌≡◌, [], ◌∷◌, ◌++◌, sym, ap, ◌∙◌, true, false}
use Rattle.std.specs.Prelude.{reverse}
use Rattle.std.proofs.lemmas.List.{reverse-append}
use Rattle.mq_rules.specs.Notes.{is_open}
use Rattle.mq_plain.proofs.HandshakeLaws.{handshake_back, handshake_back-open, handshake_back-on}
use Rattle.mq_plain.proofs.handshake.handshake_of.Goals as goal

pub returns-then-is_open : goal.returns-then-is_open
returns-then-is_open c =
    let e = c.in-Some.event.now in
    let rest = c.in-Some.rest.now in
    let parts : c.loop-event.earlier.now ≡ rest ++ e ∷ [] = search rules in
    let front : reverse c.loop-event.earlier.now ≡ e ∷ reverse rest = ap reverse parts ∙ reverse-append rest (e ∷ []) in
    let opens : is_open e.note ≡ true = search rules in
    c.after-found.ensures ∙ sym (ap (handshake_back c.args.role c.loop-event.found) front ∙ handshake_back-open c.args.role c.loop-event.found e (reverse rest) opens)
    ∙ c.loop-event.invariant

pub loop-event-preserved : goal.loop-event-preserved
loop-event-preserved c =
    let e = c.in-Some.event.now in
    let rest = c.in-Some.rest.now in
    let parts : c.loop-event.earlier.now ≡ rest ++ e ∷ [] = search rules in
    let front : reverse c.loop-event.earlier.now ≡ e ∷ reverse rest = ap reverse parts ∙ reverse-append rest (e ∷ []) in
    let opens : is_open e.note ≡ false = search rules in
    sym (ap (handshake_back c.args.role c.loop-event.found) front ∙ handshake_back-on c.args.role c.loop-event.found c.after-found.result e (reverse rest) opens c.after-found.ensures)
    ∙ c.loop-event.invariant

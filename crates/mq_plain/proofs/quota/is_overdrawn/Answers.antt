use Rattle.std.proofs.Common.{rules, ◌≡◌, ◌+◌, ◌&&◌, ◌==◌, [], ◌∷◌, ◌++◌, length, sym, ap, ◌∙◌, true, false, arith, length-append}
use Rattle.std.specs.Prelude.{is_some, reverse}
use Rattle.std.proofs.lemmas.List.{reverse-append}
use Rattle.mq_rules.specs.Notes.{is_open, delivery_of}
use Rattle.mq_rules.specs.Identifiers.{passes}
use Rattle.mq_plain.specs.Quota.{counted}
use Rattle.mq_plain.proofs.QuotaLaws.{at_open, at_full, at_room, room_back-bound}
use Rattle.mq_plain.proofs.quota.is_overdrawn.Goals as goal

pub returns-then-finds_no_room : goal.returns-then-finds_no_room
returns-then-finds_no_room c =
    let e = c.in-Some.event.now in
    let rest = c.in-Some.rest.now in
    let parts : c.loop-event.earlier.now ≡ rest ++ e ∷ [] = search rules in
    let front : reverse c.loop-event.earlier.now ≡ e ∷ reverse rest = ap reverse parts ∙ reverse-append rest (e ∷ []) in
    let full : (is_some (delivery_of e.note) && (c.loop-event.room == 0)) ≡ true = search rules in
    c.counts.ensures e ∙ sym (ap (λ es. passes c.loop-event.room (counted c.args.role es)) front ∙ at_full c.args.role c.loop-event.room e (reverse rest) full) ∙ c.loop-event.invariant.decides

pub returns-then-is_open : goal.returns-then-is_open
returns-then-is_open c =
    let e = c.in-Some.event.now in
    let rest = c.in-Some.rest.now in
    let parts : c.loop-event.earlier.now ≡ rest ++ e ∷ [] = search rules in
    let front : reverse c.loop-event.earlier.now ≡ e ∷ reverse rest = ap reverse parts ∙ reverse-append rest (e ∷ []) in
    let opens : is_open e.note ≡ true = search rules in
    sym (ap (λ es. passes c.loop-event.room (counted c.args.role es)) front ∙ at_open c.args.role c.loop-event.room e (reverse rest) opens) ∙ c.loop-event.invariant.decides

pub loop-event-preserved : goal.loop-event-preserved
loop-event-preserved c =
    let e = c.in-Some.event.now in
    let rest = c.in-Some.rest.now in
    let parts : c.loop-event.earlier.now ≡ rest ++ e ∷ [] = search rules in
    let front : reverse c.loop-event.earlier.now ≡ e ∷ reverse rest = ap reverse parts ∙ reverse-append rest (e ∷ []) in
    let opens : is_open e.note ≡ false = search rules in
    let room : (is_some (delivery_of e.note) && (c.loop-event.room == 0)) ≡ false = search rules in
    let longer : length c.loop-event.earlier.now ≡ length rest + 1 = ap length parts ∙ length-append rest (e ∷ []) in
    let least = room_back-bound e.note c.loop-event.room c.room_before-room.result c.room_before-room.ensures in
    let was = c.loop-event.invariant.bounded in
    record {
      decides = sym (ap (λ es. passes c.loop-event.room (counted c.args.role es)) front
          ∙ at_room c.args.role c.loop-event.room c.room_before-room.result e (reverse rest) room opens c.room_before-room.ensures) ∙ c.loop-event.invariant.decides;
      bounded = omega (arith, longer, least, was);
    }

use Rattle.std.proofs.Common.{rules, ◌≡◌, cond, ◌&&◌, ◌||◌, not, [], length, drop, refl, sym, ap, ◌∙◌}
use Rattle.std.specs.Prelude.{reverse}
use Rattle.mq_rules.specs.Notes.{is_open}
use Rattle.mq_rules.specs.Moments.{some}
use Rattle.mq_rules.specs.Connections.{session, latest_fate, accepted, begins}
use Rattle.mq_plain.specs.Deliveries.{subscribes_to}
use Rattle.std.proofs.lemmas.List.{take_rest}
use Rattle.mq_plain.proofs.LookbackLaws.{no_events}
use Rattle.mq_plain.proofs.DeliveryLaws.{IsCutAt, stands, standing-stands, allowed_back, rejoined, shorter_within}
use Rattle.mq_plain.proofs.deliveries.is_allowed.Goals as goal

pub returns-then-subscribes_at : goal.returns-then-subscribes_at
returns-then-subscribes_at c = λ k.
    let before = c.args.before.now in
    let earlier = c.loop-event.earlier.now in
    let e = c.in-Some.event.now in
    let rest = c.in-Some.rest.now in
    let later = drop (length earlier) before in
    let cut : IsCutAt before earlier rest later e = record { last = search rules; joined = c.loop-event.invariant.joined } in
    let here = c.subscribes_at.ensures ∙ ap (λ es. accepted c.loop-event.fate && subscribes_to c.args.topic.now c.args.least es e.note) (take_rest before (length earlier)) in
    let before_it = cond (is_open e.note) (latest_fate c.args.role (reverse rest)) c.loop-event.fate in
    let over = is_open e.note && begins c.loop-event.fate in
    let back = allowed_back c.args.topic.now c.args.least c.args.role c.loop-event.fate before_it before earlier rest later e c.subscribes_at.result over cut here refl refl in
    sym (standing-stands c.args.topic.now c.args.least c.args.role c.args.fate k (reverse before)
    ∙ (sym c.loop-event.invariant.decides ∙ (back ∙ ap (λ b. b || (not over && some (stands c.args.topic.now c.args.least (reverse before)) (session c.args.role before_it (reverse rest)))) c.if-subscribes_at.true)))

pub returns-then-begins_at : goal.returns-then-begins_at
returns-then-begins_at c = λ k.
    let before = c.args.before.now in
    let earlier = c.loop-event.earlier.now in
    let e = c.in-Some.event.now in
    let rest = c.in-Some.rest.now in
    let later = drop (length earlier) before in
    let cut : IsCutAt before earlier rest later e = record { last = search rules; joined = c.loop-event.invariant.joined } in
    let here = c.subscribes_at.ensures ∙ ap (λ es. accepted c.loop-event.fate && subscribes_to c.args.topic.now c.args.least es e.note) (take_rest before (length earlier)) in
    let before_it = cond (is_open e.note) (latest_fate c.args.role (reverse rest)) c.loop-event.fate in
    let left = some (stands c.args.topic.now c.args.least (reverse before)) (session c.args.role before_it (reverse rest)) in
    let back = allowed_back c.args.topic.now c.args.least c.args.role c.loop-event.fate before_it before earlier rest later e c.subscribes_at.result c.begins_at.result cut here c.begins_at.ensures refl in
    sym (standing-stands c.args.topic.now c.args.least c.args.role c.args.fate k (reverse before)
    ∙ (sym c.loop-event.invariant.decides ∙ (back ∙ (ap (λ b. b || (not c.begins_at.result && left)) c.if-subscribes_at.false ∙ ap (λ b. not b && left) c.if-begins_at.true))))

pub loop-event-preserved : goal.loop-event-preserved
loop-event-preserved c =
    let before = c.args.before.now in
    let earlier = c.loop-event.earlier.now in
    let e = c.in-Some.event.now in
    let rest = c.in-Some.rest.now in
    let later = drop (length earlier) before in
    let cut : IsCutAt before earlier rest later e = record { last = search rules; joined = c.loop-event.invariant.joined } in
    let here = c.subscribes_at.ensures ∙ ap (λ es. accepted c.loop-event.fate && subscribes_to c.args.topic.now c.args.least es e.note) (take_rest before (length earlier)) in
    let left = some (stands c.args.topic.now c.args.least (reverse before)) (session c.args.role c.fate_before-fate.result (reverse rest)) in
    let back = allowed_back c.args.topic.now c.args.least c.args.role c.loop-event.fate c.fate_before-fate.result before earlier rest later e c.subscribes_at.result c.begins_at.result cut here c.begins_at.ensures c.fate_before-fate.ensures in
    record {
      decides = sym (back ∙ (ap (λ b. b || (not c.begins_at.result && left)) c.if-subscribes_at.false ∙ ap (λ b. not b && left) c.if-begins_at.false)) ∙ c.loop-event.invariant.decides;
      within = shorter_within before earlier rest later e cut;
      joined = rejoined before earlier rest later e cut;
    }

pub returns : goal.returns
returns c = λ k.
    let before = c.args.before.now in
    let none : c.loop-event.earlier.now ≡ [] = no_events c.loop-event.earlier.now (search rules) in
    sym (standing-stands c.args.topic.now c.args.least c.args.role c.args.fate k (reverse before)
    ∙ (sym c.loop-event.invariant.decides ∙ ap (λ es. some (stands c.args.topic.now c.args.least (reverse before)) (session c.args.role c.loop-event.fate (reverse es))) none))

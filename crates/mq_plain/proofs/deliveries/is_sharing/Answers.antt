use Rattle.std.proofs.Common.{rules, ◌≡◌, cond, ◌&&◌, ◌||◌, not, [], ◌∷◌, ◌++◌, refl, sym, ap, ◌∙◌}
use Rattle.std.specs.Prelude.{reverse}
use Rattle.mq_rules.specs.Notes.{is_open}
use Rattle.mq_rules.specs.Moments.{some}
use Rattle.mq_rules.specs.Connections.{session, latest_fate, begins}
use Rattle.mq_rules.specs.Subscriptions.{asks_to_share}
use Rattle.mq_plain.proofs.DeliveryLaws.{sharing_back}
use Rattle.mq_plain.proofs.deliveries.is_sharing.Goals as goal

pub returns-then-asks_for_shared_at : goal.returns-then-asks_for_shared_at
returns-then-asks_for_shared_at c =
    let e = c.in-Some.event.now in
    let rest = c.in-Some.rest.now in
    let parts : c.loop-event.earlier.now ≡ rest ++ e ∷ [] = search rules in
    let before_it = cond (is_open e.note) (latest_fate c.args.role (reverse rest)) c.loop-event.fate in
    let over = is_open e.note && begins c.loop-event.fate in
    let back = sharing_back c.args.role c.loop-event.fate before_it c.loop-event.earlier.now rest e c.asks_for_shared_at.result over parts c.asks_for_shared_at.ensures refl refl in
    sym (sym c.loop-event.invariant ∙ (back ∙ ap (λ b. b || (not over && some asks_to_share (session c.args.role before_it (reverse rest)))) c.if-asks_for_shared_at.true))

pub returns-then-begins_at : goal.returns-then-begins_at
returns-then-begins_at c =
    let e = c.in-Some.event.now in
    let rest = c.in-Some.rest.now in
    let parts : c.loop-event.earlier.now ≡ rest ++ e ∷ [] = search rules in
    let before_it = cond (is_open e.note) (latest_fate c.args.role (reverse rest)) c.loop-event.fate in
    let left = some asks_to_share (session c.args.role before_it (reverse rest)) in
    let back = sharing_back c.args.role c.loop-event.fate before_it c.loop-event.earlier.now rest e c.asks_for_shared_at.result c.begins_at.result parts c.asks_for_shared_at.ensures c.begins_at.ensures refl in
    sym (sym c.loop-event.invariant ∙ (back ∙ (ap (λ b. b || (not c.begins_at.result && left)) c.if-asks_for_shared_at.false ∙ ap (λ b. not b && left) c.if-begins_at.true)))

pub loop-event-preserved : goal.loop-event-preserved
loop-event-preserved c =
    let e = c.in-Some.event.now in
    let rest = c.in-Some.rest.now in
    let parts : c.loop-event.earlier.now ≡ rest ++ e ∷ [] = search rules in
    let left = some asks_to_share (session c.args.role c.fate_before-fate.result (reverse rest)) in
    let back = sharing_back c.args.role c.loop-event.fate c.fate_before-fate.result c.loop-event.earlier.now rest e c.asks_for_shared_at.result c.begins_at.result parts c.asks_for_shared_at.ensures c.begins_at.ensures c.fate_before-fate.ensures in
    sym (back ∙ (ap (λ b. b || (not c.begins_at.result && left)) c.if-asks_for_shared_at.false ∙ ap (λ b. not b && left) c.if-begins_at.false)) ∙ c.loop-event.invariant

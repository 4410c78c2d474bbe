use Rattle.std.proofs.Common.{◌&&◌, sym, ap, ◌∙◌}
use Rattle.std.specs.Prelude.{reverse}
use Rattle.mq_rules.specs.Words.{is_some_and}
use Rattle.mq_plain.specs.Matching.{delivered_after, some_matching_after}
use Rattle.mq_plain.proofs.DeliveringLaws.{matched-so}
use Rattle.mq_plain.proofs.further.delivering.delivers_clearly.Goals as goal

pub returns-then-is_clear : goal.returns-then-is_clear
returns-then-is_clear g c =
    let role = c.args.role in
    let fate = c.args.fate in
    let e = c.args.event.now in
    let past = reverse c.args.before.now in
    let test = g.T.DeliveryTest.breaks_with role fate past in
    c.delivers_so.ensures
    ∙ sym (matched-so role fate e past test ∙ ap (λ b. b && is_some_and (λ d. test d.publish (some_matching_after role fate past d.topic)) (delivered_after e.note past)) (sym (c.is_clear.ensures e) ∙ c.if-is_clear.true))

pub returns-else-is_clear : goal.returns-else-is_clear
returns-else-is_clear g c =
    let role = c.args.role in
    let fate = c.args.fate in
    let e = c.args.event.now in
    let past = reverse c.args.before.now in
    let test = g.T.DeliveryTest.breaks_with role fate past in
    c.if-is_clear.false
    ∙ sym (matched-so role fate e past test ∙ ap (λ b. b && is_some_and (λ d. test d.publish (some_matching_after role fate past d.topic)) (delivered_after e.note past)) (sym (c.is_clear.ensures e) ∙ c.if-is_clear.false))

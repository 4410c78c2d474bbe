use Rattle.std.proofs.Common.{◌&&◌, sym, ap, ◌∙◌}
use Rattle.std.specs.Prelude.{reverse}
use Rattle.mq_rules.specs.Words.{is_some_and}
use Rattle.mq_plain.specs.Subscribed.{some_denied, stood_after, told_after}
use Rattle.mq_plain.proofs.SubscribedLaws.{denying-told}
use Rattle.mq_plain.proofs.further.deletions.denies_clearly.Goals as goal

pub returns-then-is_clear : goal.returns-then-is_clear
returns-then-is_clear c =
    let role = c.args.role in
    let fate = c.args.fate in
    let e = c.args.event.now in
    let past = reverse c.args.before.now in
    c.denies_subscribed.ensures
    ∙ sym (denying-told role fate e past ∙ ap (λ b. b && is_some_and (λ t. some_denied (stood_after role fate past t.past) t.filters t.codes) (told_after e.note past)) (sym (c.is_clear.ensures e) ∙ c.if-is_clear.true))

pub returns-else-is_clear : goal.returns-else-is_clear
returns-else-is_clear c =
    let role = c.args.role in
    let fate = c.args.fate in
    let e = c.args.event.now in
    let past = reverse c.args.before.now in
    c.if-is_clear.false
    ∙ sym (denying-told role fate e past ∙ ap (λ b. b && is_some_and (λ t. some_denied (stood_after role fate past t.past) t.filters t.codes) (told_after e.note past)) (sym (c.is_clear.ensures e) ∙ c.if-is_clear.false))

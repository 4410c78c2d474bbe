use Rattle.std.proofs.Common.{ap, sym, ◌∙◌, take}
use Rattle.std.specs.Prelude.{reverse}
use Rattle.std.proofs.lemmas.List.{take_all}
use Rattle.mq_rules.specs.Histories.{history, history_after}
use Rattle.mq_rules.proofs.Exports.{history-next, newest-first}
use Rattle.mq_plain.proofs.connection.history_of.Goals as goal

pub loop-event-preserved : goal.loop-event-preserved
loop-event-preserved c =
    let role = c.args.role in
    let seen = c.args.before.now in
    let i = c.loop-event.event-index in
    let e = c.event-item.result in
    c.consume.ensures ∙ ap (λ h. history_after role h e.note) c.loop-event.invariant ∙ sym (history-next role e (reverse (take i seen)))
    ∙ ap (history role) (sym (newest-first seen i e c.loop-event-test.true c.event-item.is))

pub returns : goal.returns
returns c =
    let seen = c.args.before.now in
    c.loop-event.invariant ∙ ap (λ xs. history c.args.role (reverse xs)) (take_all c.loop-event.event-index seen c.loop-event-test.false)

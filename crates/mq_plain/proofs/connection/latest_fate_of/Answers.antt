use Rattle.std.proofs.Common.{ap, sym, ◌∙◌, take, None, cond}
use Rattle.std.specs.Prelude.{reverse}
use Rattle.std.specs.Option.{option_or}
use Rattle.mq_rules.specs.Notes.{is_open}
use Rattle.mq_rules.specs.Moments.{newest}
use Rattle.mq_rules.specs.Connections.{latest_fate, gives_fate}
use Rattle.mq_rules.specs.Histories.{history, history_after, gives_now}
use Rattle.mq_rules.proofs.Exports.{gives-is, history-next, latest_fate-next, newest-first}
use Rattle.mq_plain.proofs.connection.latest_fate_of.Goals as goal

pub loop-event-preserved : goal.loop-event-preserved
loop-event-preserved c =
    let role = c.args.role in
    let seen = c.args.before.now in
    let i = c.loop-event.event-index in
    let e = c.event-item.result in
    let past = reverse (take i seen) in
    let next = sym (newest-first seen i e c.loop-event-test.true c.event-item.is) in (
      c.fate_next-fate.ensures
          ∙ ap (λ h. cond (is_open e.note) None (option_or c.loop-event.fate (gives_now role h e.note))) c.loop-event.invariant.1
          ∙ ap (λ g. cond (is_open e.note) None (option_or c.loop-event.fate g)) (sym (gives-is role e past))
          ∙ ap (λ f. cond (is_open e.note) None (option_or f (gives_fate role (newest e past)))) c.loop-event.invariant.0
          ∙ sym (latest_fate-next role e past)
          ∙ ap (latest_fate role) next,
      c.consume.ensures ∙ ap (λ h. history_after role h e.note) c.loop-event.invariant.1 ∙ sym (history-next role e past) ∙ ap (history role) next,
    )

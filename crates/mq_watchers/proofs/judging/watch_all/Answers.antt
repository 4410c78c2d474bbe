use Rattle.std.proofs.Common.{List, sym, subst, take}
use Rattle.std.specs.Prelude.{reverse}
use Rattle.mq_rules.specs.declared.note.Seen.{Seen}
use Rattle.mq_rules.specs.Connections.{latest_fate}
use Rattle.mq_rules.proofs.Exports.{grows-next, grows-start, newest-first, on_err, within-next}
use Rattle.mq_watchers.proofs.JudgingLaws.{follows-at, whole-grows, whole-within}
use Rattle.mq_watchers.proofs.judging.watch_all.Goals as goal

pub loop-event-init : goal.loop-event-init
loop-event-init g c = λ tested chosen whole agrees placed turn connected. (agrees, grows-start chosen tested c.args.faults.now)

pub loop-event-preserved : goal.loop-event-preserved
loop-event-preserved g c = λ tested chosen whole agrees placed turn connected.
    let seen = c.args.seen.now in
    let i = c.loop-event.event-index in
    let e = c.event-item.result in
    let past = reverse (take i seen) in
    let was = c.loop-event.invariant tested chosen whole agrees placed turn connected in
    let follows = follows-at tested seen i e c.loop-event-test.true c.event-item.is placed turn connected in (
      subst (λ (log : List Seen). g.W.Watch.agrees c.step.new.self tested (latest_fate tested.role log) log) (sym (newest-first seen i e c.loop-event-test.true c.event-item.is))
          (c.in_ok-step.ensures.agrees tested (latest_fate tested.role past) past follows (whole.taken e past) was.0),
      grows-next chosen tested seen i e c.args.faults.now c.loop-event.faults c.step.new.faults c.loop-event-test.true c.event-item.is was.1
          (whole-grows (g.W.Watch.takes tested) (g.W.Watch.adds tested) chosen tested e past c.loop-event.faults c.step.new.faults whole (c.in_ok-step.ensures.grows tested (latest_fate tested.role past) past follows (whole.taken e past) was.0)),
    )

pub returns-in_err-step-clause-memory : goal.returns-in_err-step-clause-memory
returns-in_err-step-clause-memory g c =
    on_err c.from_residual.result _ (λ tested chosen whole agrees placed turn connected.
    let seen = c.args.seen.now in
    let i = c.loop-event.event-index in
    let e = c.event-item.result in
    let past = reverse (take i seen) in
    let was = c.loop-event.invariant tested chosen whole agrees placed turn connected in
    let follows = follows-at tested seen i e c.loop-event-test.true c.event-item.is placed turn connected in
    within-next chosen tested seen i e c.args.faults.now c.loop-event.faults c.step.new.faults c.loop-event-test.true c.event-item.is was.1
    (whole-within (g.W.Watch.takes tested) (g.W.Watch.adds tested) chosen tested e past c.loop-event.faults c.step.new.faults whole (c.in_err-step.ensures.memory tested (latest_fate tested.role past) past follows (whole.taken e past) was.0)))

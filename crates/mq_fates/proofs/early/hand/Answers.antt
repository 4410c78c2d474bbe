use Rattle.std.proofs.Common.{◌++◌, ◌&&◌, false, List, take, sym, subst}
use Rattle.std.specs.Prelude.{reverse}
use Rattle.mq_rules.specs.declared.note.Seen.{Seen}
use Rattle.mq_rules.proofs.Exports.{and_false, gains_nothing, on_err}
use Rattle.mq_fates.specs.Holding.{fate_after}
use Rattle.mq_fates.proofs.EarlyLaws.{can-at, handed-at, within-whole}
use Rattle.mq_fates.proofs.early.hand.Goals as goal

pub loop-event-init : goal.loop-event-init
loop-event-init g c = λ tested base can agrees. (agrees, gains_nothing (λ k r. g.W.Fated.judges r && false) tested base c.args.decided c.args.faults.now (λ k r. and_false (g.W.Fated.judges r)))

pub loop-event-preserved : goal.loop-event-preserved
loop-event-preserved g c = λ tested base can agrees.
    let held = c.args.held.now in
    let i = c.loop-event.event-index in
    let e = c.event-item.result in
    let was = c.loop-event.invariant tested base can agrees in
    let past = reverse (take i held) ++ base in
    let here = can-at tested c.args.fate c.args.decided held i e base c.loop-event-test.true c.event-item.is can in
    let before = subst (λ o. g.W.Fated.agrees c.loop-event.watcher tested o past) here.before was.0 in (
      subst (λ (hs : List Seen). g.W.Fated.agrees c.fated.new.self tested (fate_after tested c.args.fate hs base) (hs ++ base)) (sym here.next) (c.in_ok-fated.ensures.agrees tested past here.under before),
      handed-at g.W.Fated.judges tested c.args.fate c.args.decided held i e base c.args.faults.now c.loop-event.faults c.fated.new.faults here was.1 (c.in_ok-fated.ensures.grows tested past here.under before),
    )

pub returns-in_err-fated-clause-memory : goal.returns-in_err-fated-clause-memory
returns-in_err-fated-clause-memory g c =
    on_err c.from_residual.result _ (λ tested base can agrees.
    let held = c.args.held.now in
    let i = c.loop-event.event-index in
    let e = c.event-item.result in
    let was = c.loop-event.invariant tested base can agrees in
    let past = reverse (take i held) ++ base in
    let here = can-at tested c.args.fate c.args.decided held i e base c.loop-event-test.true c.event-item.is can in
    let before = subst (λ o. g.W.Fated.agrees c.loop-event.watcher tested o past) here.before was.0 in
    within-whole g.W.Fated.judges tested c.args.fate held i e base c.args.decided c.args.faults.now c.loop-event.faults c.fated.new.faults c.loop-event-test.true c.event-item.is was.1
    (c.in_err-fated.ensures.memory tested past here.under before))

use Rattle.std.proofs.Common.{sym, subst}
use Rattle.mq_rules.proofs.Exports.{on_err}
use Rattle.mq_plain.specs.Blames.{BlamesWithin}
use Rattle.mq_plain.proofs.RestLaws.{blames-start, blames-more, blames-part}
use Rattle.mq_plain.proofs.resting.blame.Goals as goal

pub loop-place-init : goal.loop-place-init
loop-place-init c = blames-start c.args.rule c.args.decided c.args.faults.now

pub loop-place-preserved : goal.loop-place-preserved
loop-place-preserved c =
    blames-more c.args.rule c.args.decided c.args.places.now c.loop-place.place-index (record { position = 0; record_no = 0; moment = 0 }) c.args.faults.now c.loop-place.faults c.add_fault.new.faults
    c.loop-place-test.true c.loop-place.invariant c.in_ok-add_fault.ensures.ok

pub returns-in_err-add_fault-clause-memory : goal.returns-in_err-add_fault-clause-memory
returns-in_err-add_fault-clause-memory c =
    on_err c.from_residual.result (BlamesWithin c.args.rule c.args.decided c.args.places.now c.args.faults.now c.add_fault.new.faults)
    (subst (BlamesWithin c.args.rule c.args.decided c.args.places.now c.args.faults.now) (sym c.in_err-add_fault.ensures.unchanged)
    (blames-part c.args.rule c.args.decided c.args.places.now c.loop-place.place-index c.args.faults.now c.loop-place.faults c.loop-place.invariant))

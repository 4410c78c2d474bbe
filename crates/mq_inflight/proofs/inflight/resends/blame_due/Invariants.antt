use Rattle.std.proofs.Common.{◌≡◌}
use Rattle.mq_rules.specs.KeptOrder.{value_under, values_of}
use Rattle.mq_fates.specs.Judgements.{Keeps}
use Rattle.mq_inflight.specs.Resending.{blamed_due}
use Rattle.mq_inflight.proofs.inflight.resends.blame_due.Given as goal

-- with those that are left, the faults come to all
abbrev pub invariant-loop-entry : goal.invariant-loop-entry
invariant-loop-entry l = record {
  told : blamed_due l.fn.opened l.fn.excused l.fn.decided l.entry-iterator l.faults ≡ blamed_due l.fn.opened l.fn.excused l.fn.decided (values_of (value_under l.fn.entries)) l.initial.faults;
  kept : Keeps l.initial.faults l.faults;
}

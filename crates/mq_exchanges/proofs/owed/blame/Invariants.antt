use Rattle.std.proofs.Common.{◌≡◌, ◌≤◌, ◌+◌, ◌-◌, length}
use Rattle.mq_rules.specs.KeptOrder.{found_from, ids_kept, value_under, values_of}
use Rattle.mq_fates.specs.Judgements.{blamed, Keeps}
use Rattle.mq_exchanges.proofs.owed.blame.Given as goal

-- with those that are left, the faults come to all
abbrev pub invariant-loop : goal.invariant-loop
invariant-loop l = record {
  turns_held : blamed l.fn.rule l.fn.decided (found_from (value_under l.due) l.next (65536 - l.next)) l.faults ≡ blamed l.fn.rule l.fn.decided (values_of (value_under l.fn.due)) l.initial.faults;
  kept : Keeps l.initial.faults l.faults;
  within : l.next ≤ 65536;
  counted : l.counter + length (found_from (value_under l.due) l.next (65536 - l.next)) ≡ ids_kept l.due;
}

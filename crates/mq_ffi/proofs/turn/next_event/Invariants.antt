use Rattle.std.proofs.Common.{◌≡◌, None}
use Rattle.std.specs.FinMap as map
use Rattle.mq_ffi.specs.Asking.{left_by}
use Rattle.mq_ffi.specs.Giving.{earliest_after}
use Rattle.mq_ffi.proofs.turn.next_event.Given as goal

abbrev pub invariant-loop-key : goal.invariant-loop-key
invariant-loop-key l = earliest_after l.after l.earliest (left_by l.choice l.key-iterator) ≡ earliest_after l.after None (left_by l.choice (map.entries l.faults))

use Rattle.std.proofs.Common.{◌≡◌}
use Rattle.std.specs.List.{list_any}
use Rattle.mq_rules.specs.KeptOrder.{value_under, values_of}
use Rattle.mq_inflight.specs.Using.{is_taken}
use Rattle.mq_inflight.proofs.inflight.asking.is_any_taken.Given as goal

-- the answer was no for those that have been passed
abbrev pub invariant-loop-entry : goal.invariant-loop-entry
invariant-loop-entry l = list_any (is_taken l.fn.since) l.entry-iterator ≡ list_any (is_taken l.fn.since) (values_of (value_under l.fn.entries))

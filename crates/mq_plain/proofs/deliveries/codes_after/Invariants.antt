use Rattle.std.proofs.Common.{◌≡◌, drop}
use Rattle.mq_plain.specs.Deliveries.{codes_ahead}
use Rattle.mq_plain.proofs.deliveries.codes_after.Given as goal

-- the events that are left decide
abbrev pub invariant-loop-event : goal.invariant-loop-event
invariant-loop-event l = codes_ahead l.identifier (drop l.event-index l.later) ≡ codes_ahead l.identifier l.later

use Rattle.std.proofs.Common.{take}
use Rattle.std.specs.Prelude.{reverse}
use Rattle.mq_rules.specs.Moments.{IsPlaced}
use Rattle.mq_rules.specs.Statements.{is_on_bytes}
use Rattle.mq_rules.specs.Faults.{Grows}
use Rattle.mq_connections.proofs.plain.plain_w.Given as goal

-- the faults are those of the events so far
abbrev pub invariant-loop-event : goal.invariant-loop-event
invariant-loop-event l = IsPlaced (reverse l.seen) → Grows (is_on_bytes l.fn.tested) l.fn.tested (reverse (take l.event-index l.seen)) l.initial.faults l.faults

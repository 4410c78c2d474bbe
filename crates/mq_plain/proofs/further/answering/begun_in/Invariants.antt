use Rattle.std.proofs.Common.{◌≡◌, ◌+◌, ◌≤◌, length}
use Rattle.std.specs.Prelude.{reverse}
use Rattle.mq_rules.specs.Connections.{begun}
use Rattle.mq_plain.proofs.further.answering.begun_in.Given as goal

-- what is left to look at is counted too
abbrev pub invariant-loop-event : goal.invariant-loop-event
invariant-loop-event l = record {
  exact : l.begun + begun (reverse l.earlier) ≡ begun (reverse l.events);
  most : l.begun + length l.earlier ≤ length l.events;
}

abbrev pub decreases-loop-event : goal.decreases-loop-event
decreases-loop-event l = length l.earlier

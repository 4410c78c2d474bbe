use Rattle.std.proofs.Common.{◌≡◌, ◌+◌, ◌≤◌, length}
use Rattle.std.specs.Prelude.{reverse}
use Rattle.mq_rules.specs.Moments.{note, count}
use Rattle.mq_rules.specs.Connections.{connection}
use Rattle.mq_plain.proofs.exchanges.pings.count_on_connection.Given as goal

-- what was counted, and what is left; no more were counted than were looked at
abbrev pub invariant-loop-event : goal.invariant-loop-event
invariant-loop-event g l = record {
  left : l.counted + count (λ m. g.T.NoteTest.test l.test (note m)) (connection (reverse l.earlier)) ≡ count (λ m. g.T.NoteTest.test l.test (note m)) (connection (reverse l.before));
  within : l.counted + length l.earlier ≤ length l.before;
}

abbrev pub decreases-loop-event : goal.decreases-loop-event
decreases-loop-event g l = length l.earlier

use Rattle.std.proofs.Common.{◌≡◌, ◌||◌, take}
use Rattle.std.specs.Prelude.{reverse}
use Rattle.mq_rules.specs.Moments.{IsPlaced}
use Rattle.mq_rules.specs.Statements.{is_on_bytes, is_on_past}
use Rattle.mq_rules.specs.Faults.{Grows}
use Rattle.mq_connections.specs.Finding.{Agrees, send_bounds}
use Rattle.mq_connections.proofs.one_pass.plain_connections.Given as goal

-- what is kept is what the events so far lead to, the bounds are those of what is kept, and the faults are theirs
abbrev pub invariant-loop-event : goal.invariant-loop-event
invariant-loop-event l = record {
  agrees : Agrees l.conn l.fn.tested (reverse (take l.event-index l.seen));
  bounded : l.bounds ≡ send_bounds l.conn.role l.conn.state;
  grown : IsPlaced (reverse l.seen) → Grows (λ r. is_on_bytes l.fn.tested r || is_on_past l.fn.tested r) l.fn.tested (reverse (take l.event-index l.seen)) l.initial.faults l.faults;
}

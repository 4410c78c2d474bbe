use Rattle.std.proofs.Common.{◌≡◌, take}
use Rattle.std.specs.Prelude.{reverse}
use Rattle.mq_rules.specs.Histories.{history}
use Rattle.mq_plain.proofs.connection.history_of.Given as goal

-- what is kept of the events so far
abbrev pub invariant-loop-event : goal.invariant-loop-event
invariant-loop-event l = l.history ≡ history l.role (reverse (take l.event-index l.before))

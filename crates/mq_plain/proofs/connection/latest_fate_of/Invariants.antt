use Rattle.std.proofs.Common.{◌≡◌, take}
use Rattle.std.specs.Prelude.{reverse}
use Rattle.mq_rules.specs.Connections.{latest_fate}
use Rattle.mq_rules.specs.Histories.{history}
use Rattle.mq_plain.proofs.connection.latest_fate_of.Given as goal

-- the fate after the events so far, and what is kept of them
abbrev pub invariant-loop-event : goal.invariant-loop-event
invariant-loop-event l = (l.fate ≡ latest_fate l.role (reverse (take l.event-index l.before))) × (l.history ≡ history l.role (reverse (take l.event-index l.before)))

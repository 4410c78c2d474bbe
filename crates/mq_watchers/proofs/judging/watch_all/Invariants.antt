use Rattle.std.proofs.Common.{Bool, Some, [], take}
use Rattle.std.specs.Prelude.{reverse}
use Rattle.mq_rules.specs.declared.role.Tested.{Tested}
use Rattle.mq_rules.specs.declared.rule.Rule.{Rule}
use Rattle.mq_rules.specs.declared.fate.Fate.TheVariants.{Void}
use Rattle.mq_rules.specs.Moments.{IsPlaced}
use Rattle.mq_rules.specs.Connections.{latest_fate, AreOnConnections}
use Rattle.mq_rules.specs.Faults.{Grows}
use Rattle.mq_rules.specs.Under.{IsInTurn}
use Rattle.mq_watchers.specs.Judging.{IsWhole}
use Rattle.mq_watchers.proofs.judging.watch_all.Given as goal

-- the state agrees with the events so far, and their faults are there
abbrev pub invariant-loop-event : goal.invariant-loop-event
invariant-loop-event g l = (tested : Tested) (chosen : Rule → Bool) → IsWhole (g.W.Watch.takes tested) (g.W.Watch.adds tested) chosen tested → g.W.Watch.agrees l.initial.watcher tested (Some Void) []
    → IsPlaced (reverse l.seen) → IsInTurn tested.role (reverse l.seen) → AreOnConnections (reverse l.seen)
    → g.W.Watch.agrees l.watcher tested (latest_fate tested.role (reverse (take l.event-index l.seen))) (reverse (take l.event-index l.seen)) × Grows chosen tested (reverse (take l.event-index l.seen)) l.initial.faults l.faults

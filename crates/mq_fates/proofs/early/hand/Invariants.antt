use Rattle.std.proofs.Common.{◌++◌, ◌&&◌, List, take}
use Rattle.std.specs.Prelude.{reverse}
use Rattle.mq_rules.specs.declared.role.Tested.{Tested}
use Rattle.mq_rules.specs.declared.note.Seen.{Seen}
use Rattle.mq_rules.specs.Connections.{latest_fate}
use Rattle.mq_rules.specs.Growing.{Gains}
use Rattle.mq_fates.specs.Holding.{CanHand, fate_after, turns_held}
use Rattle.mq_fates.proofs.early.hand.Given as goal

-- the events so far were handed on
abbrev pub invariant-loop-event : goal.invariant-loop-event
invariant-loop-event g l = (tested : Tested) (base : List Seen) → CanHand tested l.fn.decided (reverse l.held) base → g.W.Fated.agrees l.initial.watcher tested (latest_fate tested.role base) base
    → g.W.Fated.agrees l.watcher tested (fate_after tested l.fn.fate (reverse (take l.event-index l.held)) base) (reverse (take l.event-index l.held) ++ base)
    × Gains (λ k r. g.W.Fated.judges r && turns_held tested l.fn.fate (reverse (take l.event-index l.held)) base k r) tested (reverse (take l.event-index l.held) ++ base) l.fn.decided l.initial.faults l.faults

use Rattle.std.proofs.Common.{take}
use Rattle.std.specs.Prelude.{reverse}
use Rattle.mq_rules.specs.Moments.{IsPlaced}
use Rattle.mq_rules.specs.Faults.{Grows}
use Rattle.mq_plain.proofs.further.evaluator.judge_events.Given as goal

-- the faults are those of the events so far
abbrev pub invariant-loop-i : goal.invariant-loop-i
invariant-loop-i g l = IsPlaced (reverse l.seen) → Grows g.E.AtOnce.chosen l.tested (reverse (take l.i l.seen)) l.initial.faults l.faults

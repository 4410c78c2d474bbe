use Rattle.std.proofs.Common.{take}
use Rattle.std.specs.Prelude.{reverse}
use Rattle.mq_rules.specs.Moments.{IsPlaced}
use Rattle.mq_rules.specs.Faults.{Grows}
use Rattle.mq_plain.specs.Waiting.{IsKept}
use Rattle.mq_plain.proofs.pass.judge_each.Given as goal

-- the faults are those of the events so far, of which this is kept
abbrev pub invariant-loop-i : goal.invariant-loop-i
invariant-loop-i g l = record {
  grown : IsPlaced (reverse l.seen) → Grows g.E.Evaluator.chosen l.tested (reverse (take l.i l.seen)) l.initial.faults l.faults;
  kept : IsKept l.kept l.tested.role (reverse (take l.i l.seen));
}

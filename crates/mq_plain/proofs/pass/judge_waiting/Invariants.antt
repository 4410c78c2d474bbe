use Rattle.std.proofs.Common.{◌&&◌, ◌≡◌, false, take}
use Rattle.std.specs.Prelude.{reverse}
use Rattle.mq_rules.specs.Moments.{IsPlaced}
use Rattle.mq_rules.specs.Growing.{Gains}
use Rattle.mq_plain.specs.Events.{some_asks}
use Rattle.mq_plain.specs.Waiting.{turns_after}
use Rattle.mq_plain.proofs.pass.judge_waiting.Given as goal

-- the faults have those of the events so far that waited
abbrev pub invariant-loop-i : goal.invariant-loop-i
invariant-loop-i g l = record {
  grown : g.E.Evaluator.is_for l.evaluator l.decision.tested → IsPlaced (reverse l.seen) → (l.decision.asked ≡ false → some_asks (reverse l.seen) ≡ false)
      → Gains (λ k r. g.E.Evaluator.chosen r && turns_after l.decision.tested l.decision.fate l.first (reverse (take l.i l.seen)) k r) l.decision.tested (reverse l.seen) l.decision.position l.initial.faults l.faults;
}

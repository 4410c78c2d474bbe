use Rattle.std.proofs.Common.{◌≡◌}
use Rattle.std.specs.List.{list_any}
use Rattle.std.specs.FinMap.{entries}
use Rattle.mq_evidence.specs.Trailing.{needs}
use Rattle.mq_evidence.proofs.wanted.any_needs.Given as goal

-- none of the faults so far needs it
abbrev pub invariant-loop-key : goal.invariant-loop-key
invariant-loop-key l = list_any (λ f. needs l.fn.need f.0.rule) l.key-iterator ≡ list_any (λ f. needs l.fn.need f.0.rule) (entries l.wanted)

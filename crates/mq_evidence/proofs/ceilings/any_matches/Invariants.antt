use Rattle.std.proofs.Common.{◌≡◌, false, take}
use Rattle.std.specs.List.{list_any}
use Rattle.mq_topic.specs.Matching.{matches}
use Rattle.mq_evidence.proofs.ceilings.any_matches.Given as goal

-- none so far matches
abbrev pub invariant-loop-kept : goal.invariant-loop-kept
invariant-loop-kept l = list_any (λ s. matches s.filter l.fn.topic) (take l.kept-index l.filters) ≡ false

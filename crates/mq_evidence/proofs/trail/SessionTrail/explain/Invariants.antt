use Rattle.std.proofs.Common.{◌≡◌, ◌+◌, ℕ, List, length, Some, None}
use Rattle.std.specs.List.{list_any}
use Rattle.std.specs.Option.{option_or}
use Rattle.std.specs.FinMap as map
use Rattle.mq_rules.specs.declared.role.Tested.{Tested}
use Rattle.mq_rules.specs.declared.fate.Fate.{Fate}
use Rattle.mq_rules.specs.declared.rule.Rule.{Rule}
use Rattle.mq_rules.specs.declared.note.Seen.{Seen}
use Rattle.mq_rules.specs.Words.{only}
use Rattle.mq_rules.specs.Moments.{newest}
use Rattle.mq_rules.specs.Under.{seen}
use Rattle.mq_evidence.specs.Evidence.{found, reason}
use Rattle.mq_evidence.specs.Findings.{found_at}
use Rattle.mq_evidence.specs.Trailing.{IsTrail, explained_at, is_explained, finds}
use Rattle.mq_evidence.proofs.trail.SessionTrail.explain.Given as goal

-- with what is added for the faults that are left, all is there
abbrev pub invariant-loop-key : goal.invariant-loop-key
invariant-loop-key l = (tested : Tested) (fate : Fate) (past : List Seen) → l.fn.at.position ≡ length past + 1 → IsTrail l.self tested (Some fate) past → (k : ℕ) (r : Rule)
    → option_or (only (list_any (is_explained (finds l.self) k r) l.key-iterator) (Some (found (reason tested.role r) (Some fate) None (newest (seen l.fn.at l.note) past)))) (found_at l.findings k r)
    ≡ option_or (explained_at (finds l.self) (map.entries l.wanted) l.fn.at.position k r (found (reason tested.role r) (Some fate) None (newest (seen l.fn.at l.note) past))) (found_at l.fn.findings k r)

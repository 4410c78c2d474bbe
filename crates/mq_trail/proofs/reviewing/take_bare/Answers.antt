use Rattle.std.proofs.Common.{ℕ, ◌∷◌, List, Some, subst}
use Rattle.mq_rules.specs.declared.role.Tested.{Tested}
use Rattle.mq_rules.specs.declared.note.Seen.{Seen}
use Rattle.mq_rules.specs.Under.{seen, IsUnder, fate_before}
use Rattle.mq_evidence.specs.Trailing.{IsExplaining}
use Rattle.mq_trail.proofs.reviewing.take_bare.Goals as goal

pub returns-clause-agrees : goal.returns-clause-agrees
returns-clause-agrees c =
    subst (λ n. (tested : Tested) (decided : ℕ) (past : List Seen) → IsUnder tested c.args.fate decided (seen c.args.at n) past
    → IsExplaining c.args.explaining.now tested (fate_before tested c.args.fate (seen c.args.at n) past) past → IsExplaining c.take.new.self tested (Some c.args.fate) (seen c.args.at n ∷ past)) c.note-note.ensures c.in_ok-take.ensures.agrees

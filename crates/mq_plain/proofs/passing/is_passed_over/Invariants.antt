use Rattle.std.proofs.Common.{◌≡◌, Some, length}
use Rattle.std.specs.Prelude.{reverse}
use Rattle.mq_rules.specs.Moments.{Moment}
use Rattle.mq_rules.specs.Identifiers.{is_passed_over}
use Rattle.mq_plain.proofs.passing.is_passed_over.Given as goal

-- what is left to look at decides
abbrev pub invariant-loop-rest : goal.invariant-loop-rest
invariant-loop-rest l = (k : Moment) → length k.past ≡ l.opener → is_passed_over l.role l.fate l.identifier (reverse l.until) k ≡ is_passed_over l.role (Some l.fn.fate) l.identifier (reverse l.before) k

abbrev pub decreases-loop-rest : goal.decreases-loop-rest
decreases-loop-rest l = length l.until

use Rattle.std.proofs.Common.{◌≡◌, length}
use Rattle.std.specs.Prelude.{reverse}
use Rattle.mq_plain.specs.Subscribed.{some_denied, stood_after}
use Rattle.mq_plain.proofs.further.deletions.some_denied.Given as goal

-- the filters that are left decide
abbrev pub invariant-loop-last : goal.invariant-loop-last
invariant-loop-last l = some_denied (stood_after l.role l.fate (reverse l.before) (reverse l.told.before.now)) l.left l.told.codes.now
    ≡ some_denied (stood_after l.role l.fate (reverse l.before) (reverse l.told.before.now)) l.told.filters.now l.told.codes.now

abbrev pub decreases-loop-last : goal.decreases-loop-last
decreases-loop-last l = length l.left

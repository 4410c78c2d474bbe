use Rattle.std.proofs.Common.{◌≡◌, length}
use Rattle.std.specs.List.{list_any}
use Rattle.mq_rules.specs.MatchingSubscriptions.{subscribed_by}
use Rattle.mq_plain.specs.Matching.{is_matched}
use Rattle.mq_plain.proofs.further.matching.any_matched.Given as goal

-- the filters and Reason Codes that are left decide
abbrev pub invariant-loop-filter : goal.invariant-loop-filter
invariant-loop-filter l = list_any (is_matched l.kind l.topic) (subscribed_by l.identifier l.asked l.codes) ≡ list_any (is_matched l.kind l.topic) (subscribed_by l.identifier l.fn.asked l.fn.codes)

abbrev pub decreases-loop-filter : goal.decreases-loop-filter
decreases-loop-filter l = length l.asked

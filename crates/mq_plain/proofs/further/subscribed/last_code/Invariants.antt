use Rattle.std.proofs.Common.{◌≡◌, length}
use Rattle.std.specs.Option.{option_or}
use Rattle.mq_rules.specs.FurtherSubscriptions.{last_code}
use Rattle.mq_plain.proofs.further.subscribed.last_code.Given as goal

-- the filters and Reason Codes that are left decide, and else what was found
abbrev pub invariant-loop-other : goal.invariant-loop-other
invariant-loop-other l = option_or (last_code l.filter l.asked l.codes) l.last ≡ last_code l.filter l.fn.asked l.fn.codes

abbrev pub decreases-loop-other : goal.decreases-loop-other
decreases-loop-other l = length l.asked

use Rattle.std.proofs.Common.{◌≡◌, length, option_map}
use Rattle.std.specs.Prelude.{reverse}
use Rattle.std.specs.Option.{option_or}
use Rattle.mq_plain.specs.Finding.{moment_of}
use Rattle.mq_plain.specs.Subscribed.{codes_given}
use Rattle.mq_plain.proofs.further.answering.given_codes.Given as goal

-- what is left to look at decides, and else what was found
abbrev pub invariant-loop-event : goal.invariant-loop-event
invariant-loop-event l = option_or (codes_given (moment_of l.asking) (reverse l.earlier)) (option_map (λ codes. codes.now) l.found) ≡ codes_given (moment_of l.asking) (reverse l.before)

abbrev pub decreases-loop-event : goal.decreases-loop-event
decreases-loop-event l = length l.earlier

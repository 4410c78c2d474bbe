use Rattle.std.proofs.Common.{◌≡◌, take}
use Rattle.mq_rules.specs.Weights.{in_word}
use Rattle.mq_fates.specs.Holding.{held_weigh}
use Rattle.mq_fates.proofs.early.held_size.Given as goal

-- those so far
abbrev pub invariant-loop-event : goal.invariant-loop-event
invariant-loop-event l = l.size ≡ in_word (held_weigh (take l.event-index l.held))

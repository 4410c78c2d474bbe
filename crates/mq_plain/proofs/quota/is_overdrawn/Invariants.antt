use Rattle.std.proofs.Common.{◌≡◌, ◌+◌, ◌<◌, length}
use Rattle.std.specs.Prelude.{reverse}
use Rattle.mq_rules.specs.Identifiers.{passes}
use Rattle.mq_plain.specs.Quota.{counted}
use Rattle.mq_plain.proofs.quota.is_overdrawn.Given as goal

-- what is left to look at decides, and each event gives back one at most
abbrev pub invariant-loop-event : goal.invariant-loop-event
invariant-loop-event l = record {
  decides : passes l.room (counted l.role (reverse l.earlier)) ≡ passes l.fn.room (counted l.role (reverse l.before));
  bounded : l.room + length l.earlier < 65536 + length l.before;
}

abbrev pub decreases-loop-event : goal.decreases-loop-event
decreases-loop-event l = length l.earlier

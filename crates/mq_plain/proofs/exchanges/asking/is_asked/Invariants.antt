use Rattle.std.proofs.Common.{◌≡◌, ◌==◌, ◌&&◌, ◌≤◌, Some, length}
use Rattle.std.specs.Prelude.{reverse}
use Rattle.mq_rules.specs.Moments.{since}
use Rattle.mq_rules.specs.Connections.{begun, number, session}
use Rattle.mq_rules.specs.Exchanges.{causes, answers}
use Rattle.mq_plain.proofs.exchanges.asking.is_asked.Given as goal

-- what is left to look at decides, and what is known of its connection
abbrev pub invariant-loop-event : goal.invariant-loop-event
invariant-loop-event g l = record {
  left : since (causes g.X.Exchange.exchange l.identifier) (λ m. answers g.X.Exchange.exchange l.identifier m && (number m == begun (reverse l.before))) (session l.role l.fate (reverse l.earlier))
      ≡ since (causes g.X.Exchange.exchange l.identifier) (λ m. answers g.X.Exchange.exchange l.identifier m && (number m == begun (reverse l.before))) (session l.role (Some l.fn.fate) (reverse l.before));
  latest : l.is_latest ≡ (begun (reverse l.earlier) == begun (reverse l.before));
  within : begun (reverse l.earlier) ≤ begun (reverse l.before);
}

abbrev pub decreases-loop-event : goal.decreases-loop-event
decreases-loop-event g l = length l.earlier

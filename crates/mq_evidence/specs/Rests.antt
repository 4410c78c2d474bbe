-- The RESTs that show the faults of S06.
use Rattle.std.specs.Prelude.{ℕ, Bool, ◌&&◌, nat_eq, Option, Some, None}
use Rattle.mq_rules.specs.declared.rule.Rule.TheVariants.{S06}
use Rattle.mq_rules.specs.declared.fault.Fault.{Fault}
use Rattle.mq_rules.specs.declared.faults.FaultKey.{FaultKey}
use Rattle.mq_rules.specs.Rules.{same_rule}

-- the event at this position shows the fault of S06
abbrev pub shows_at : ℕ → FaultKey × Fault → Bool
shows_at p f = same_rule f.0.rule S06 && nat_eq f.1.decided p

-- what is kept for a position, if anything is
abbrev pub connack_of : Option (Option ℕ) → Option ℕ
connack_of None = None
connack_of (Some o) = o

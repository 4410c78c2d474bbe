-- The exchanges of SUBSCRIBE and SUBACK, and of UNSUBSCRIBE and UNSUBACK, bind a server only (MQTT 5.0, sections 3.8.4 and 3.10.4).
use Rattle.std.specs.Prelude.{◌≡◌, Bool, true, false, List, [], Option, Some, None}
use Rattle.mq_rules.specs.declared.role.Role.{Role}
use Rattle.mq_rules.specs.declared.role.Tested.{Tested}
use Rattle.mq_rules.specs.declared.rule.Rule.TheVariants.{E5R}
use Rattle.mq_rules.specs.declared.fate.Fate.{Fate}
use Rattle.mq_rules.specs.declared.fate.Fate.TheVariants.{Void}
use Rattle.mq_rules.specs.declared.note.Seen.{Seen}
use Rattle.mq_rules.specs.Rules.{binds_end}

-- whether they bind this end
abbrev pub binds_requests : Role → Bool
binds_requests role = binds_end E5R role

-- Where they bind the tested end, what is kept agrees with these events; where they don't, nothing is kept.
abbrev pub AgreesIfBound : {W : Type 0} → (W → Tested → Option Fate → List Seen → Type 0) → Option W → Tested → Option Fate → List Seen → Type 0
AgreesIfBound agrees (Some watchers) tested taken past = (binds_requests tested.role ≡ true) × agrees watchers tested taken past
AgreesIfBound agrees None tested taken past = binds_requests tested.role ≡ false

-- Where they bind the tested end, the counts are those of these events; where they don't, they are those of no events.
pub record CountsIfBound {P : Type 0} (counts : P → Tested → Option Fate → List Seen → Type 0) (places : P) (tested : Tested) (taken : Option Fate) (past : List Seen) : Type 0 where
  pub bound : binds_requests tested.role ≡ true → counts places tested taken past
  pub unbound : binds_requests tested.role ≡ false → counts places tested (Some Void) []

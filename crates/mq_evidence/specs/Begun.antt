-- What is kept of how a session began.
use Rattle.std.specs.Prelude.{◌≡◌, option_map}
use Rattle.mq_rules.specs.declared.role.Role.{Role}
use Rattle.mq_rules.specs.Moments.{position}
use Rattle.mq_evidence.specs.declared.begun.Begun.{Begun}
use Rattle.mq_evidence.specs.Evidence.{earliest, is_connack}
use Rattle.mq_evidence.specs.Stretches.{Stretches}

-- These stretches lead to what is kept, where the tested end has this role.
pub record IsBegun (b : Begun) (role : Role) (s : Stretches) : Type 0 where
  pub same_role : b.role ≡ role
  pub connack_is : b.connack ≡ option_map position (earliest (is_connack role) s.session)

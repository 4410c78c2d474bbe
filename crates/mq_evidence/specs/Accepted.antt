-- What is kept of the connections that were accepted.
use Rattle.std.specs.Prelude.{◌≡◌, ◌&&◌, nat_lt, List, is_some, option_map}
use Rattle.mq_rules.specs.declared.role.Role.{Role}
use Rattle.mq_rules.specs.declared.note.Seen.{Seen}
use Rattle.mq_rules.specs.Moments.{position, moments, latest}
use Rattle.mq_rules.specs.Connections.{begun, number, accepts_at, latest_outcome}
use Rattle.mq_evidence.specs.declared.accepted.Accepted.{Accepted}

-- These events lead to what is kept, where the tested end has this role.
pub record IsAccepted (a : Accepted) (role : Role) (past : List Seen) : Type 0 where
  pub same_role : a.role ≡ role
  pub decided_is : a.decided ≡ is_some (latest_outcome role past)
  pub last_is : a.last ≡ option_map position (latest (accepts_at role) (moments past))
  pub before_is : a.before ≡ option_map position (latest (λ m. accepts_at role m && nat_lt (number m) (begun past)) (moments past))

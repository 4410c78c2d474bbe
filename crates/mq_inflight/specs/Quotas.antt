-- What the book of the send quota keeps.
use Rattle.std.specs.Prelude.{ℕ, ◌≡◌, ◌+◌, ◌-◌, Bool, true, ◌&&◌, nat_le, cond, List, Option, Some, None, is_some, unwrap_or}
use Rattle.std.specs.Option.{option_or}
use Rattle.mq_rules.specs.declared.role.Role.{Role}
use Rattle.mq_rules.specs.declared.role.Role.TheVariants.{Client, Server}
use Rattle.mq_rules.specs.declared.role.Tested.{Tested}
use Rattle.mq_rules.specs.declared.fate.Fate.{Fate}
use Rattle.mq_rules.specs.declared.note.Note.{Note}
use Rattle.mq_rules.specs.declared.note.Seen.{Seen}
use Rattle.mq_rules.specs.Notes.{is_open, delivery_of, closer_of}
use Rattle.mq_rules.specs.Moments.{those}
use Rattle.mq_rules.specs.Connections.{connection, first_connect, first_connack, accepts}
use Rattle.mq_rules.specs.Identifiers.{counts}
use Rattle.mq_rules.specs.Counter.{in_flight}
use Rattle.mq_inflight.specs.declared.quota.Quota.{Quota}
use Rattle.mq_fates.specs.Taking.{announced, connack_room, connect_room}

-- what the peer has announced on the latest connection
abbrev pub peer_room : Role → List Seen → Option ℕ
peer_room Client past = connack_room (first_connack Client (connection past))
peer_room Server past = connect_room (first_connect Server (connection past))

-- whether the next event counts
abbrev pub may_count : Role → Option ℕ → Bool
may_count Client peer = is_some peer
may_count Server peer = true

-- what is in flight after an event
abbrev pub flown : Bool → Note → ℕ → ℕ
flown counted n old = cond (is_open n) 0 (cond counted (cond (is_some (delivery_of n)) (old + 1) (cond (is_some (closer_of n)) (old - 1) old)) old)

-- a PUBLISH is sent that passes the quota
abbrev pub exceeds : Fate → Note → Role → Option ℕ → ℕ → Bool
exceeds f n role peer old = accepts f && (is_some (delivery_of n) && (may_count role peer && nat_le (unwrap_or peer 65535) old))

-- a PUBLISH is sent that uses up the quota, or passes it
abbrev pub uses_up : Fate → Note → Role → Option ℕ → ℕ → Bool
uses_up f n role peer old = accepts f && (is_some (delivery_of n) && (may_count role peer && nat_le (unwrap_or peer 65535) (old + 1)))

-- what is kept after an event of a connection that has this fate
abbrev pub quota_after : Quota → Fate → Note → Quota
quota_after q f n = record { role = q.role; fate = f; peer = option_or (cond (is_open n) None q.peer) (announced q.role n); in_flight = flown (may_count q.role q.peer) n q.in_flight }

-- These events lead to what is kept.
pub record IsQuota (quota : Quota) (tested : Tested) (taken : Option Fate) (past : List Seen) : Type 0 where
  pub same_role : quota.role ≡ tested.role
  pub same_fate : taken ≡ Some quota.fate
  pub same_peer : quota.peer ≡ peer_room tested.role past
  pub flying : quota.in_flight ≡ in_flight (those (counts tested.role) (connection past))

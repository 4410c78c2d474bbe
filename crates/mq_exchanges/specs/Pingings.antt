-- What the book of pings keeps.
use Rattle.std.specs.Prelude.{ℕ, ◌≡◌, ◌+◌, nat_lt, Bool, true, false, ◌&&◌, not, cond, List, Option, Some}
use Rattle.mq_rules.specs.declared.role.Role.{Role}
use Rattle.mq_rules.specs.declared.role.Role.TheVariants.{Client, Server}
use Rattle.mq_rules.specs.declared.role.Tested.{Tested}
use Rattle.mq_rules.specs.declared.fate.Fate.{Fate}
use Rattle.mq_rules.specs.declared.note.Note.{Note}
use Rattle.mq_rules.specs.declared.note.Seen.{Seen}
use Rattle.mq_rules.specs.Notes.{is_rest, is_sent_pingresp, is_received_pingreq}
use Rattle.mq_rules.specs.Moments.{note, some, count}
use Rattle.mq_rules.specs.Connections.{connection, ends_binding, accepts}
use Rattle.mq_exchanges.specs.declared.pings.Pings.{Pings}

abbrev pub is_server : Role → Bool
is_server Client = false
is_server Server = true

-- how many after an event
abbrev pub counted : Bool → Bool → ℕ → ℕ
counted passes opens old = cond passes 1 0 + cond opens 0 old

-- a REST that binds, with a ping that wasn't answered; its connection is decided, or not yet
abbrev pub unanswered : Role → Fate → Bool → Bool → Note → ℕ → ℕ → Bool
unanswered role f known ended n asked answered = is_server role && (accepts f && ((is_rest n && (known && (accepts f && not ended))) && nat_lt answered asked))

-- a REST that binds, after a ping; its connection is decided, or not yet
abbrev pub pinged : Role → Fate → Bool → Bool → Note → ℕ → Bool
pinged role f known ended n asked = is_server role && (accepts f && ((is_rest n && (known && (accepts f && not ended))) && nat_lt 0 asked))

-- These events lead to what is kept.
pub record IsPings (p : Pings) (tested : Tested) (taken : Option Fate) (past : List Seen) : Type 0 where
  pub same_role : p.role ≡ tested.role
  pub same_fate : taken ≡ Some p.fate
  pub ended : p.ended ≡ some ends_binding (connection past)
  pub asked : p.asked ≡ count (λ m. is_received_pingreq (note m)) (connection past)
  pub answered : p.answered ≡ count (λ m. is_sent_pingresp (note m)) (connection past)

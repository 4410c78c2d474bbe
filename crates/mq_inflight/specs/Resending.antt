-- What a resumed session owes (MQTT 5.0, section 4.4).
use Rattle.std.specs.Prelude.{ℕ, ◌≡◌, nat_lt, nat_le, Bool, true, false, ◌&&◌, ◌||◌, not, cond, List, [], ◌∷◌, Option, Some, None, is_some, option_map, unwrap_or}
use Rattle.std.specs.Option.{option_or}
use Rattle.mq_log.specs.declared.place.Place3.{Place3}
use Rattle.mq_rules.specs.declared.role.Role.{Role}
use Rattle.mq_rules.specs.declared.role.Role.TheVariants.{Client, Server}
use Rattle.mq_rules.specs.declared.fate.Fate.{Fate}
use Rattle.mq_rules.specs.declared.rule.Rule.TheVariants.{S06}
use Rattle.mq_rules.specs.declared.note.Note.{Note}
use Rattle.mq_rules.specs.declared.note.Seen.{Seen}
use Rattle.mq_rules.specs.declared.packet_note.ConnectNote.{ConnectNote}
use Rattle.mq_rules.specs.declared.packet_note.ConnackNote.{ConnackNote}
use Rattle.mq_rules.specs.Words.{is_some_and, is_id}
use Rattle.mq_rules.specs.Notes.{is_open, connect_of, connack_of, closer_of, received_as, accepting_pubrec_in}
use Rattle.mq_rules.specs.Connections.{connection, latest_fate, first_connect, first_connack, accepts, begins, resumes, resumed}
use Rattle.mq_rules.specs.Passing.{opened_at}
use Rattle.mq_rules.specs.FaultKeys.{FaultMap, with_fault}
use Rattle.mq_inflight.specs.declared.inflight.entry.Entry.{Entry}
use Rattle.mq_inflight.specs.declared.inflight.resends.Resent.{Resent}
use Rattle.mq_inflight.specs.declared.inflight.resends.Bounds.{Bounds}
use Rattle.mq_inflight.specs.declared.inflight.resends.Excused.{Excused}
use Rattle.mq_fates.specs.Taking.{binds_by}

-- what a peer's CONNECT or CONNACK announces of what may be sent: whether there is a Maximum Packet Size or a Maximum QoS, and whether nothing may be retained
abbrev pub connect_bounds : Option ConnectNote → Option Bounds
connect_bounds o = option_map (λ c. record { limits = is_some c.maximum_packet_size; refuses_retained = false }) o

abbrev pub connack_bounds : Option ConnackNote → Option Bounds
connack_bounds o = option_map (λ a. record { limits = is_some a.maximum_packet_size || is_some a.maximum_qos; refuses_retained = is_id 0 a.retain_available }) o

abbrev pub bounds_by : Role → Note → Option Bounds
bounds_by Client n = connack_bounds (connack_of Client n)
bounds_by Server n = connect_bounds (connect_of Server n)

-- what the peer has announced on the latest connection
abbrev pub peer_bounds : Role → List Seen → Option Bounds
peer_bounds Client past = connack_bounds (first_connack Client (connection past))
peer_bounds Server past = connect_bounds (first_connect Server (connection past))

abbrev pub bounds_next : Role → Note → Option Bounds → Option Bounds
bounds_next role n old = option_or (cond (is_open n) None old) (bounds_by role n)

-- the peer announced a Maximum Packet Size or a Maximum QoS
abbrev pub is_limited : Option Bounds → Bool
is_limited bounds = is_some_and (λ b. b.limits) bounds

-- The position of the OPEN of the latest connection that passes over what isn't sent there: it is resumed, and the peer announced a bound. That is the latest one, whose
-- OPEN is at `opened`, or one before it, as `bounded` says.
abbrev pub passed_since : Fate → Option Bounds → ℕ → ℕ → ℕ
passed_since f bounds opened bounded = cond (resumes f && is_limited bounds) opened bounded

-- the position of the OPEN of the latest such connection before the latest one of these events; 0 if there is none
abbrev pub bounded_at : Role → List Seen → ℕ
bounded_at role [] = 0
bounded_at role (e ∷ past) = cond (is_open e.note && (resumed (latest_fate role past) && is_limited (peer_bounds role past))) (opened_at past) (bounded_at role past)

-- the same after an event, where the connection before it has this fate
abbrev pub bounded_next : Note → Fate → Option Bounds → ℕ → ℕ → ℕ
bounded_next n f bounds opened old = cond (is_open n && (resumes f && is_limited bounds)) opened old

-- What is excused of what wasn't confirmed, whatever the quota: what is retained, if nothing may be; and what was passed over.
abbrev pub by_itself : Fate → Option Bounds → ℕ → ℕ → Excused
by_itself f bounds opened bounded = record { all = false; retained = is_some_and (λ b. b.refuses_retained) bounds; before = passed_since f bounds opened bounded }

-- What is excused of what wasn't confirmed: all of it, if the send quota is used up; and what is by itself.
abbrev pub excuses : Option ℕ → ℕ → Excused → Excused
excuses peer flying single = record { all = nat_le (unwrap_or peer 65535) flying; retained = single.retained; before = single.before }

-- the same without what the quota excuses; with all of it
abbrev pub apart : Excused → Excused
apart excused = record { all = false; retained = excused.retained; before = excused.before }

abbrev pub entire : Excused
entire = record { all = true; retained = true; before = 0 }

-- what is open was passed over: before what was sent last under it, or since
abbrev pub is_passed : ℕ → Entry → Bool
is_passed since o = o.passed || nat_lt o.sent since

-- what wasn't confirmed is excused
abbrev pub covers : Excused → Entry → Bool
covers excused o = excused.all || (is_passed excused.before o || (excused.retained && o.retained))

-- an identifier that is open wasn't sent again since this OPEN, and isn't excused
abbrev pub is_due : ℕ → Excused → Entry → Bool
is_due opened excused o = nat_lt o.sent opened && (o.confirmed || not (covers excused o))

-- the places of those that are due
abbrev pub due_places : ℕ → Excused → List Entry → List Place3
due_places opened excused [] = []
due_places opened excused (o ∷ os) = cond (is_due opened excused o) (o.place ∷ due_places opened excused os) (due_places opened excused os)

-- the faults with that of an identifier, if it is due, decided at this position; the same for several
abbrev pub due_next : ℕ → Excused → ℕ → Entry → FaultMap → FaultMap
due_next opened excused at o faults = cond (is_due opened excused o) (with_fault (record { position = o.place.position; rule = S06 }) (record { decided = at; record_no = o.place.record_no; offset = None }) faults) faults

abbrev pub blamed_due : ℕ → Excused → ℕ → List Entry → FaultMap → FaultMap
blamed_due opened excused at [] faults = faults
blamed_due opened excused at (o ∷ os) faults = blamed_due opened excused at os (due_next opened excused at o faults)

-- the faults after a REST, if it binds: where nothing is known to be due nothing is looked at, and where all that isn't confirmed is excused, only what is
abbrev pub told : Bool → Resent → Excused → ℕ → ℕ → List Entry → FaultMap → FaultMap
told rests r excused opened at entries faults =
    cond rests (cond excused.all (cond r.confirmed faults (blamed_due opened entire at entries faults)) (cond r.all faults (blamed_due opened (apart excused) at entries faults))) faults

-- a PUBREC below 0x80 is received for an identifier that is open and wasn't sent again since this OPEN
abbrev pub confirms_untouched : Note → ℕ → (ℕ → Option Entry) → Bool
confirms_untouched n opened entry = is_some_and (λ i. is_some_and (λ o. nat_lt o.sent opened) (entry i)) (received_as accepting_pubrec_in n)

-- What is known not to be due since this OPEN isn't, where this is excused by itself.
pub record IsResent (opened : ℕ) (single : Excused) (entry : ℕ → Option Entry) (r : Resent) : Type 0 where
  pub all_are : r.all ≡ true → (i : ℕ) → is_some_and (is_due opened single) (entry i) ≡ false
  pub confirmed_are : r.confirmed ≡ true → (i : ℕ) → is_some_and (is_due opened entire) (entry i) ≡ false

-- this is a REST that binds, on a resumed connection
abbrev pub settles : Fate → Bool → Bool → Note → Bool
settles f known ended n = resumes f && binds_by f known ended n

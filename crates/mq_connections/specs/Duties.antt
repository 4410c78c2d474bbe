-- What is kept of the latest connection, so that the further statements which a later REST shows (C24, D01 to D03, D05) are judged in one pass: what was said on it so far, and the place
-- at which the server came to owe something, until a REST shows what came of it. Whether the next event shows that, and whether it puts the statement to the test.
use Rattle.std.specs.Prelude.{ℕ, ◌≡◌, ◌+◌, ◌<◌, Bool, true, false, ◌&&◌, ◌||◌, not, cond, List, Option, Some, None, is_some, option_map}
use Rattle.mq_log.specs.declared.place.Place3.{Place3}
use Rattle.mq_packet.specs.declared.packet.PacketType.TheVariants as types
use Rattle.mq_rules.specs.declared.role.Role.TheVariants.{Server}
use Rattle.mq_rules.specs.declared.role.Tested.{Tested}
use Rattle.mq_rules.specs.declared.fate.Fate.{Fate}
use Rattle.mq_rules.specs.declared.rule.Rule.{Rule}
use Rattle.mq_rules.specs.declared.rule.Rule.TheVariants.{C24, D01, D02, D03, D05}
use Rattle.mq_rules.specs.declared.note.Note.{Note}
use Rattle.mq_rules.specs.declared.note.Seen.{Seen}
use Rattle.mq_connections.specs.declared.duties.Duties.{Duties}
use Rattle.mq_connections.specs.declared.duties.DutiesPlaces.{DutiesPlaces}
use Rattle.mq_connections.specs.declared.duties.Found.{Found}
use Rattle.mq_connections.specs.declared.duties.Talk.{Talk}
use Rattle.mq_connections.specs.declared.duties.Trial.{Trial}
use Rattle.mq_rules.specs.Words.{is_some_and}
use Rattle.mq_rules.specs.Notes.{connect_of, is_open, is_rest, receives_type, sends_type, sent_connack}
use Rattle.mq_rules.specs.Moments.{Moment, note, position, since, some, latest}
use Rattle.mq_rules.specs.Connections.{connection}
use Rattle.mq_rules.specs.FurtherRests.{ends_talk, owes_C24, owes_D01, owes_D02, owes_D03, owes_D05, receives_connect, receives_malformed, repeats_connect, says_goodbye, settles_connect, shows_outcome, takes_connack}
use Rattle.mq_rules.specs.ProtocolErrors.{is_protocol_error}
use Rattle.mq_rules.specs.ReceiveMaximum.{exceeds_maximum, refuses_message}
use Rattle.mq_connections.specs.Terms.{finds_error, terms_weigh, IsTerms}
use Rattle.mq_connections.specs.Unfinished.{finds_excess, unfinished_weigh, IsUnfinished}
use Rattle.mq_rules.specs.Burden.{aliases_heard, identifiers_heard}
use Rattle.mq_rules.specs.Rules.{binds}
use Rattle.mq_rules.specs.FaultKeys.{FaultMap, with_fault}
use Rattle.mq_rules.specs.Occasions.{applies, places}

-- ---- what is kept

-- the moment of the latest connection at which the server came to owe something, if it did
abbrev pub owed_on : (Moment → Bool) → List Seen → Option Moment
owed_on owes past = latest owes (connection past)

-- its place
abbrev pub place_of : Option Moment → Option Place3
place_of o = option_map (λ m. m.event.place) o

-- what was said on the latest connection, and where the server came to owe an answer to the CONNECT, and to close the connection after a Malformed Packet, a second CONNECT, another
-- Protocol Error, or a PUBLISH above the Receive Maximum
unfoldable pub talk : List Seen → Talk
talk past = record {
  has_connect = some receives_connect (connection past);
  has_repeat = some repeats_connect (connection past);
  has_malformed = some (λ j. receives_malformed (note j)) (connection past);
  has_error = some is_protocol_error (connection past);
  has_excess = some exceeds_maximum (connection past);
  has_refusal = some (λ j. refuses_message (note j)) (connection past);
  has_ended = some (λ j. ends_talk (note j)) (connection past);
  has_goodbye = some (λ j. says_goodbye (note j)) (connection past);
  has_settled = some (λ j. settles_connect (note j)) (connection past);
  awaits_auth = since (λ j. sends_type types.Auth (note j)) (λ j. receives_type types.Auth (note j)) (connection past);
  unanswered = place_of (owed_on owes_C24 past);
  malformed = place_of (owed_on owes_D01 past);
  repeated = place_of (owed_on owes_D02 past);
  mistaken = place_of (owed_on owes_D03 past);
  excessive = place_of (owed_on owes_D05 past);
}

-- what is kept of a connection on which nothing has come yet
abbrev pub nothing_said : Talk
nothing_said = record {
  has_connect = false;
  has_repeat = false;
  has_malformed = false;
  has_error = false;
  has_excess = false;
  has_refusal = false;
  has_ended = false;
  has_goodbye = false;
  has_settled = false;
  awaits_auth = false;
  unanswered = None;
  malformed = None;
  repeated = None;
  mistaken = None;
  excessive = None;
}

-- with this event the server comes to owe a CONNACK
abbrev pub finds_unanswered : Talk → Note → Bool
finds_unanswered t n = (receives_type types.Connect n && not t.has_connect) && is_some_and takes_connack (connect_of Server n)

-- with this event the server comes to owe that it closes the connection: after a Malformed Packet, and after a second CONNECT
abbrev pub finds_malformed : Talk → Note → Bool
finds_malformed t n = (receives_malformed n && not t.has_malformed) && not t.has_ended

abbrev pub finds_repeated : Talk → Note → Bool
finds_repeated t n = ((receives_type types.Connect n && t.has_connect) && not t.has_repeat) && not t.has_ended

-- the same after a Protocol Error: the flag says whether the event is one
abbrev pub finds_mistake : Talk → Bool → Bool
finds_mistake t error = (error && not t.has_error) && not t.has_ended

-- the same after a PUBLISH above the Receive Maximum
abbrev pub finds_excessive : Talk → Bool → Bool
finds_excessive t excess = (excess && not t.has_excess) && not t.has_ended

-- what is kept with one event more of the connection, which is such an error or not
abbrev pub followed : Talk → Place3 → Note → Found → Talk
followed t at n f = record {
  has_connect = t.has_connect || receives_type types.Connect n;
  has_repeat = t.has_repeat || (receives_type types.Connect n && t.has_connect);
  has_malformed = t.has_malformed || receives_malformed n;
  has_error = t.has_error || f.is_error;
  has_excess = t.has_excess || f.is_excess;
  has_refusal = t.has_refusal || refuses_message n;
  has_ended = t.has_ended || ends_talk n;
  has_goodbye = t.has_goodbye || says_goodbye n;
  has_settled = t.has_settled || settles_connect n;
  awaits_auth = sends_type types.Auth n || (not (receives_type types.Auth n) && t.awaits_auth);
  unanswered = cond (finds_unanswered t n) (Some at) t.unanswered;
  malformed = cond (finds_malformed t n) (Some at) t.malformed;
  repeated = cond (finds_repeated t n) (Some at) t.repeated;
  mistaken = cond (finds_mistake t f.is_error) (Some at) t.mistaken;
  excessive = cond (finds_excessive t f.is_excess) (Some at) t.excessive;
}

-- and with one event more: at an OPEN a new connection begins
abbrev pub talk_after : Talk → Place3 → Note → Found → Talk
talk_after t at n f = followed (cond (is_open n) nothing_said t) at n f

-- what the next event is, by what is kept
abbrev pub found : Duties → Note → Found
found d n = record { is_error = finds_error d.talk.has_connect d.terms n; is_excess = finds_excess d.unfinished d.terms.connack n }

-- how much is kept: Topic Aliases, and Packet Identifiers
abbrev pub duties_weigh : Duties → ℕ
duties_weigh d = terms_weigh d.terms + unfinished_weigh d.unfinished

-- What the watcher keeps is that of these events, the newest first, if the statements bind the tested end.
pub record IsDuties (d : Duties) (tested : Tested) (taken : Option Fate) (past : List Seen) : Type 0 where
  pub same_bound : d.is_bound ≡ binds D02 tested
  pub same_talk : d.is_bound ≡ true → d.talk ≡ talk past
  pub same_terms : d.is_bound ≡ true → IsTerms d.terms past
  pub same_unfinished : d.is_bound ≡ true → IsUnfinished d.unfinished past
  pub as_many_aliases : terms_weigh d.terms ≡ aliases_heard tested past
  pub as_many_identifiers : unfinished_weigh d.unfinished ≡ identifiers_heard tested past

-- ---- what the next event shows

-- the event is a REST, and the CONNECT would still have to be answered
abbrev pub leaves_now : Talk → Note → Bool
leaves_now t n = is_rest n && (not t.has_settled && not t.awaits_auth)

-- the event is a REST, and the server hasn't said that it closes the connection
abbrev pub stays_now : Talk → Note → Bool
stays_now t n = is_rest n && not t.has_goodbye

-- the same; or it shows otherwise what comes of an error: but no message of QoS 2 was refused
abbrev pub stays_unrefused : Talk → Note → Bool
stays_unrefused t n = stays_now t n && not t.has_refusal

abbrev pub tries_excess : Talk → Note → Bool
tries_excess t n = shows_outcome n && not t.has_refusal

-- the event answers the CONNECT, or shows that it is left without an answer
abbrev pub tries_answer : Talk → Note → Bool
tries_answer t n = is_some (sent_connack n) || leaves_now t n

-- the faults with that of the statement at this place, if there is one and the event at the other place shows it
abbrev pub blamed : Rule → Option Place3 → Bool → Place3 → FaultMap → FaultMap
blamed rule None shown at faults = faults
blamed rule (Some p) shown at faults =
    cond shown (with_fault (record { position = p.position; rule = rule }) (record { decided = at.position; record_no = p.record_no; offset = None }) faults) faults

-- the faults with those of one, two, three, four and all five statements
abbrev pub blamed_one : Talk → Note → Place3 → FaultMap → FaultMap
blamed_one t n at faults = blamed C24 t.unanswered (leaves_now t n) at faults

abbrev pub blamed_two : Talk → Note → Place3 → FaultMap → FaultMap
blamed_two t n at faults = blamed D01 t.malformed (stays_now t n) at (blamed_one t n at faults)

abbrev pub blamed_three : Talk → Note → Place3 → FaultMap → FaultMap
blamed_three t n at faults = blamed D02 t.repeated (stays_now t n) at (blamed_two t n at faults)

abbrev pub blamed_four : Talk → Note → Place3 → FaultMap → FaultMap
blamed_four t n at faults = blamed D03 t.mistaken (stays_now t n) at (blamed_three t n at faults)

abbrev pub blamed_all : Talk → Note → Place3 → FaultMap → FaultMap
blamed_all t n at faults = blamed D05 t.excessive (stays_unrefused t n) at (blamed_four t n at faults)

-- If there is no memory for a fault, those of the statements before are there; if there is none for what is kept, all are.
pub data BlamesWithin (t : Talk) (n : Note) (at : Place3) (old new : FaultMap) : Type 0 where
  nothing : new ≡ old → BlamesWithin t n at old new
  one : new ≡ blamed_one t n at old → BlamesWithin t n at old new
  two : new ≡ blamed_two t n at old → BlamesWithin t n at old new
  three : new ≡ blamed_three t n at old → BlamesWithin t n at old new
  four : new ≡ blamed_four t n at old → BlamesWithin t n at old new
  all : new ≡ blamed_all t n at old → BlamesWithin t n at old new

-- ---- where they are put to the test

-- the server owes something on the latest connection, and nothing has put that to the test yet
abbrev pub waits_for : Tested → Rule → (Moment → Bool) → List Seen → Bool
waits_for tested rule owes past = is_some_and (λ m. not (applies tested past (position m) rule)) (owed_on owes past)

-- what is counted of a statement, with an event that puts it to the test or not, finds such a duty or not, and opens a connection or not
abbrev pub waits_after : Bool → Bool → Bool → Bool → Bool
waits_after waits tried found opens = found || (waits && (not opens && not tried))

pub record CountsTrial (old new : Trial) (tried found opens : Bool) (at : ℕ) : Type 0 where
  pub places : old.places < at → new.places ≡ cond (old.waits && tried) 1 0 + old.places
  pub waits : new.waits ≡ waits_after old.waits tried found opens

-- the count is that of these events, the newest first
pub record IsTrial (t : Trial) (tested : Tested) (rule : Rule) (owes : Moment → Bool) (past : List Seen) : Type 0 where
  pub same_places : t.places ≡ places tested past rule
  pub same_waits : binds rule tested ≡ true → t.waits ≡ waits_for tested rule owes past

pub record CountsDuties (p : DutiesPlaces) (tested : Tested) (past : List Seen) : Type 0 where
  pub c24 : IsTrial p.c24 tested C24 owes_C24 past
  pub d01 : IsTrial p.d01 tested D01 owes_D01 past
  pub d02 : IsTrial p.d02 tested D02 owes_D02 past
  pub d03 : IsTrial p.d03 tested D03 owes_D03 past
  pub d05 : IsTrial p.d05 tested D05 owes_D05 past

-- In a log that isn't refused each event has its place, and a connection that isn't decided has few events.
use Rattle.std.proofs.Common.{◌≡◌, ℕ, ◌+◌, ◌<◌, ◌≤◌, Bool, true, false, cond, nat_lt, List, [], ◌∷◌, ◌++◌, length, map, reverse, Option, Some, None, is_some, refl, sym, ◌∙◌, ap, subst, arith, length-append}
use Rattle.std.specs.Prelude.{nat_le, ◌||◌, ◌&&◌, not, if◌then◌else◌, option_map}
use Rattle.std.proofs.lemmas.List.{reverse-append, reverse-reverse, length-map}
use Rattle.std.proofs.lemmas.Bool.{ltb-true, ltb-false, le-ltb, leb-false}
use Rattle.std.specs.Option.{option_or}
use Rattle.mq_packet.specs.declared.packet.AcknowledgementKind.TheVariants as acknowledgements
use Rattle.mq_packet.specs.declared.packet.RequestKind.TheVariants as requests
use Rattle.mq_packet.specs.Entries.{Entry, connect, connack, publish, acknowledgement, request, answer, pingreq, pingresp, disconnect, auth}
use Rattle.mq_packet.specs.Canonical.{type_of}
use Rattle.mq_log.specs.declared.kind.Direction.{Direction}
use Rattle.mq_log.specs.declared.kind.Direction.TheVariants as directions
use Rattle.mq_log.specs.declared.refusal.Refusal.{Refusal}
use Rattle.mq_log.specs.declared.header.Header.{Header}
use Rattle.mq_log.specs.Framing.{header_by, ahead_in, head_length, moment_in}
use Rattle.mq_log.specs.Events.{Event, Placed, part_at, packet_at, unfinished_at, event_in, event_at, events, packet, bad, lost, opened, closed, sent, received}
use Rattle.mq_log.specs.Connections.{begins_connection, ends_connection, is_connack_type, is_answer, has_open_connection, is_connack_seen as trace_connack_seen, events_on_connection, most_early_events}
use Rattle.mq_log.specs.Refusals.{Situation, situation, first_that_applies, conditions, header_refusal, record_refusal, refusal_at, refused, comes_too_early}
use Rattle.mq_log.specs.Context.{Context, ahead_of, context, event_for, placed_with, placed_for, put}
use Rattle.mq_log.proofs.Exports.{refused-grow, event-kept, events-kept, events-header, header-unchanged}
use Rattle.mq_rules.specs.declared.role.Role.{Role}
use Rattle.mq_rules.specs.declared.fate.Fate.{Fate}
use Rattle.mq_rules.specs.declared.fate.Fate.TheVariants.{Void}
use Rattle.mq_rules.specs.declared.note.Note.{Note}
use Rattle.mq_rules.specs.declared.note.Seen.{Seen}
use Rattle.mq_rules.specs.declared.packet_note.PacketFields.{PacketFields}
use Rattle.mq_rules.specs.declared.packet_note.PacketFields.TheVariants.{Connack}
use Rattle.mq_rules.specs.declared.packet_note.ConnackNote.{ConnackNote}
use Rattle.mq_rules.specs.Notes.{tested_as, tested_by, note_of, seen, seen_in, packet_fields, fields_type, connack_in, connack_of, is_open, is_close, fate_by, decides}
use Rattle.mq_rules.specs.Rules.{none_further}
use Rattle.mq_rules.specs.Moments.{Moment, newest, note, moments, since, IsPlaced}
use Rattle.mq_rules.specs.Connections.{connection, latest_fate, gives_fate, is_connected}
use Rattle.mq_rules.proofs.BoolLaws.{option_or-there, option_or-other}
use Rattle.mq_rules.proofs.FateLaws.{connection-next, latest_fate-next, closed-decided, close-gives, gives-decides, open-gives}

-- ---- what the log's reader knows of an event is what the statements look at of it

type-noted : (direction : Direction) (entry : Entry) → type_of entry ≡ fields_type (packet_fields direction entry)
type-noted direction (connect fields) = refl
type-noted direction (connack session_present code properties) = refl
type-noted direction (publish fields) = refl
type-noted direction (acknowledgement acknowledgements.Puback identifier code properties) = refl
type-noted direction (acknowledgement acknowledgements.Pubrec identifier code properties) = refl
type-noted direction (acknowledgement acknowledgements.Pubrel identifier code properties) = refl
type-noted direction (acknowledgement acknowledgements.Pubcomp identifier code properties) = refl
type-noted direction (request requests.Subscribe identifier properties filters) = refl
type-noted direction (request requests.Unsubscribe identifier properties filters) = refl
type-noted direction (answer requests.Subscribe identifier properties codes) = refl
type-noted direction (answer requests.Unsubscribe identifier properties codes) = refl
type-noted direction pingreq = refl
type-noted direction pingresp = refl
type-noted direction (disconnect code properties) = refl
type-noted direction (auth code properties) = refl

connack-typed : (fields : PacketFields) → is_connack_type (fields_type fields) ≡ is_some (connack_in fields)
connack-typed (Connack c method) = refl
connack-typed _ = refl

-- the role of the end that a header names
abbrev pub role_of : Header → Role
role_of header = (tested_as none_further header).role

-- a CONNACK from the server
answer-noted : (version : ℕ) (server releases : Bool) (e : Event) → is_answer server e ≡ is_some (connack_of (role_of (record { version = version; server = server; releases = releases })) (note_of e))
answer-noted version true releases (sent (packet size entry)) = ap is_connack_type (type-noted directions.Sent entry) ∙ connack-typed (packet_fields directions.Sent entry)
answer-noted version true releases (sent (bad bytes rule at)) = refl
answer-noted version true releases (sent lost) = refl
answer-noted version true releases _ = refl
answer-noted version false releases (received (packet size entry)) = ap is_connack_type (type-noted directions.Recv entry) ∙ connack-typed (packet_fields directions.Recv entry)
answer-noted version false releases (received (bad bytes rule at)) = refl
answer-noted version false releases (received lost) = refl
answer-noted version false releases _ = refl

begins-noted : (e : Event) → begins_connection e ≡ is_open (note_of e)
begins-noted opened = refl
begins-noted _ = refl

ends-noted : (e : Event) → ends_connection e ≡ is_close (note_of e)
ends-noted (closed unfinished) = refl
ends-noted _ = refl

-- an open connection
connected-noted : (log : List Placed) → has_open_connection log ≡ is_connected (map seen log)
connected-noted [] = refl
connected-noted (e ∷ past) =
    ap (λ b. b || (not (ends_connection e.event) && has_open_connection past)) (begins-noted e.event)
    ∙ ap (λ b. is_open (note_of e.event) || (not b && has_open_connection past)) (ends-noted e.event)
    ∙ ap (λ b. is_open (note_of e.event) || (not (is_close (note_of e.event)) && b)) (connected-noted past)

-- The CONNACK of the latest connection has come.
abbrev is_connack_seen : Role → List Seen → Bool
is_connack_seen role log = since (λ m. is_some (connack_of role (note m))) (λ m. is_open (note m)) (moments log)

connack_seen-noted : (header : Header) (log : List Placed) → trace_connack_seen header.server log ≡ is_connack_seen (role_of header) (map seen log)
connack_seen-noted header [] = refl
connack_seen-noted header (e ∷ past) =
    ap (λ b. b || (not (begins_connection e.event) && trace_connack_seen header.server past)) (answer-noted header.version header.server header.releases e.event)
    ∙ ap (λ b. is_some (connack_of (role_of header) (note_of e.event)) || (not b && trace_connack_seen header.server past)) (begins-noted e.event)
    ∙ ap (λ b. is_some (connack_of (role_of header) (note_of e.event)) || (not (is_open (note_of e.event)) && b)) (connack_seen-noted header past)

-- the events on the latest connection
on_connection-noted : (log : List Placed) → events_on_connection log ≡ length (connection (map seen log))
on_connection-noted [] = refl
on_connection-noted (e ∷ past) =
    ap (λ b. if b then 1 else events_on_connection past + 1) (begins-noted e.event)
    ∙ ap (λ n. if is_open (note_of e.event) then 1 else n + 1) (on_connection-noted past)
    ∙ one_more (is_open (note_of e.event))
    ∙ sym (ap (length {A = Moment}) (connection-next (seen e) (map seen past)))
  where
    one_more : (b : Bool) → (if b then 1 else length (connection (map seen past)) + 1) ≡ length (cond b (newest (seen e) (map seen past) ∷ []) (newest (seen e) (map seen past) ∷ connection (map seen past)))
    one_more true = refl
    one_more false = omega arith

-- ---- what its CONNACK decides is decided

connack-decides : (role : Role) (note : Note) → is_some (connack_of role note) ≡ true → is_some (decides role note) ≡ true
connack-decides role note h = go (is_close note) (connack_of role note) h
  where
    go : (b : Bool) (o : Option ConnackNote) → is_some o ≡ true → is_some (cond b (Some Void) (option_map fate_by o)) ≡ true
    go true o h = refl
    go false (Some c) h = refl
    go false None h = absurd (cc)

connack-gives : (role : Role) (e : Seen) (past : List Seen) → is_some (connack_of role e.note) ≡ true → is_some (gives_fate role (newest e past)) ≡ true
connack-gives role e past h = gives-decides role e past ∙ connack-decides role e.note h

-- the latest connection's CONNACK decides it
connack_seen-decided : (role : Role) (log : List Seen) → is_connack_seen role log ≡ true → is_some (latest_fate role log) ≡ true
connack_seen-decided role [] h = absurd (cc)
connack_seen-decided role (e ∷ past) h =
    ap is_some (latest_fate-next role e past)
    ∙ go (is_open e.note) (is_some (connack_of role e.note)) (is_connack_seen role past) h (open-gives role e past) (connack-gives role e past) (connack_seen-decided role past)
  where
    go : (opens answers was : Bool) → (answers || (not opens && was)) ≡ true → (opens ≡ true → gives_fate role (newest e past) ≡ None) → (answers ≡ true → is_some (gives_fate role (newest e past)) ≡ true)
        → (was ≡ true → is_some (latest_fate role past) ≡ true) → is_some (cond opens None (option_or (latest_fate role past) (gives_fate role (newest e past)))) ≡ true
    go true true was h none now before = absurd (let a = none refl in let b = now refl in cc)
    go true false was h none now before = absurd (cc)
    go false true was h none now before = option_or-other (latest_fate role past) (gives_fate role (newest e past)) (now refl)
    go false false was h none now before = option_or-there (latest_fate role past) (gives_fate role (newest e past)) (before h)

-- ---- a byte that is not refused

-- what holds of no bytes, and of a log with one byte more if it holds of the log, holds of every log
pub along : (P : List ℕ → Type 0) → P [] → ((log : List ℕ) (byte : ℕ) → P log → P (log ++ byte ∷ [])) → (log : List ℕ) → P log
along P start step log = subst P (reverse-reverse log) (back (reverse log))
  where
    back : (bytes : List ℕ) → P (reverse bytes)
    back [] = start
    back (byte ∷ bytes) = subst P (sym (reverse-append (byte ∷ []) bytes)) (step (reverse bytes) byte (back bytes))

-- no line of a list of refusals applies
abbrev pub NoneApplies : List (Bool × Refusal) → Type 0
NoneApplies [] = Unit {0}
NoneApplies (line ∷ lines) = (line.0 ≡ false) × NoneApplies lines

pub none_applies : (lines : List (Bool × Refusal)) → first_that_applies lines ≡ None → NoneApplies lines
none_applies [] h = tt
none_applies (line ∷ lines) h = go (none_applies lines) line.0 line.1 refl h
  where
    go : (first_that_applies lines ≡ None → NoneApplies lines) → (b : Bool) (r : Refusal) → line.0 ≡ b → cond b (Some r) (first_that_applies lines) ≡ None → (line.0 ≡ false) × NoneApplies lines
    go others true r is e = absurd (cc)
    go others false r is e = (is, others e)

not-early : (limit : ℕ) (s : Situation) → record_refusal limit s ≡ None → comes_too_early s (event_in s.unfinished (head_length s.header.version) s.part s.so_far) ≡ false
unfolding record_refusal
not-early limit s h = (none_applies (conditions limit s) h).1.1.1.1.1.1.1.0

-- where a log with one byte more isn't refused, the log isn't, and the byte adds no refusal
pub unrefused-grow : (limit : ℕ) (log : List ℕ) (byte : ℕ) → refused limit (log ++ byte ∷ []) ≡ None → (refused limit log ≡ None) × (refusal_at limit log byte ≡ None)
unrefused-grow limit log byte h = go (refused limit log) (refusal_at limit log byte) (sym (refused-grow limit log byte) ∙ h)
  where
    go : (a b : Option Refusal) → option_or a b ≡ None → (a ≡ None) × (b ≡ None)
    go None b e = (refl, e)
    go (Some r) b e = absurd (cc)

-- one event more comes too early, by what was noted of it and of those before it
abbrev is_one_too_many : (connected connack_seen : Bool) (count : ℕ) (ends answers : Bool) → Bool
is_one_too_many connected connack_seen count ends answers = (connected && (not connack_seen && nat_le most_early_events count)) && not (ends || answers)

-- the event that the next byte completes doesn't come too early
unrefused-event : (limit : ℕ) (log : List ℕ) (byte : ℕ) (event : Event) → 8 ≤ length log → refusal_at limit log byte ≡ None → event_for (context log) byte ≡ Some event
    → is_one_too_many (is_connected (seen_in log)) (is_connack_seen (tested_by none_further log).role (seen_in log)) (length (connection (seen_in log))) (is_close (note_of event)) (is_some (connack_of (tested_by none_further log).role (note_of event))) ≡ false
unfolding refusal_at event_at situation seen_in
unrefused-event limit log byte event long unrefused is =
    let header = header_by log in
    let log_seen = map seen (events log) in
    let connected = has_open_connection (events log) in
    let connack_seen = trace_connack_seen header.server (events log) in
    let count = events_on_connection (events log) in
    let closes = is_close (note_of event) in
    let answers = is_some (connack_of (role_of header) (note_of event)) in
    let after_header : nat_lt (length log) 8 ≡ false = le-ltb (length log) 8 long in
    let none : record_refusal limit (situation log byte) ≡ None =
    sym (ap (λ b. if b then header_refusal (length log) byte else record_refusal limit (situation log byte)) after_header) ∙ unrefused in
    let here : event_in (unfinished_at log) (ahead_in log) (part_at log byte) (packet_at log byte) ≡ Some event =
    sym (ap (λ b. if b then None else event_in (unfinished_at log) (ahead_in log) (part_at log byte) (packet_at log byte)) after_header) ∙ event-kept log byte ∙ is in
    ap (λ b. is_one_too_many b (is_connack_seen (role_of header) log_seen) (length (connection log_seen)) closes answers) (sym (connected-noted (events log)))
    ∙ ap (λ b. is_one_too_many connected b (length (connection log_seen)) closes answers) (sym (connack_seen-noted header (events log)))
    ∙ ap (λ n. is_one_too_many connected connack_seen n closes answers) (sym (on_connection-noted (events log)))
    ∙ ap (λ b. is_one_too_many connected connack_seen count b answers) (sym (ends-noted event))
    ∙ ap (λ b. is_one_too_many connected connack_seen count (ends_connection event) b) (sym (answer-noted header.version header.server header.releases event))
    ∙ ap (comes_too_early (situation log byte)) (sym here)
    ∙ not-early limit (situation log byte) none

-- ---- what is kept of a log

pub connected_context : (log : List ℕ) → (context log).connected ≡ is_connected (seen_in log)
unfolding context seen_in
connected_context log = connected-noted (events log)

events_context : (log : List ℕ) → (context log).events ≡ length (seen_in log)
unfolding context seen_in
events_context log = sym (length-map (events log) seen)

-- what the statements look at of an event that may have come, in a record of this moment
abbrev pub seen_with : Context → ℕ → Option Event → List Seen → List Seen
seen_with c moment None log = log
seen_with c moment (Some event) log = record { place = record { position = c.events + 1; record_no = c.records + 1; moment = moment }; note = note_of event } ∷ log

seen_put : (c : Context) (moment : ℕ) (o : Option Event) (log : List Placed) → map seen (put (placed_with c moment o) log) ≡ seen_with c moment o (map seen log)
seen_put c moment None log = refl
seen_put c moment (Some event) log = refl

-- the moment of the next byte's record
abbrev pub moment_so : List ℕ → ℕ → ℕ
moment_so log byte = moment_in (ahead_of (context log)) ((context log).part ++ byte ∷ [])

pub seen-kept : (log : List ℕ) (byte : ℕ) → seen_in (log ++ byte ∷ []) ≡ seen_with (context log) (moment_so log byte) (event_for (context log) byte) (seen_in log)
unfolding seen_in placed_for
seen-kept log byte = ap (map seen) (events-kept log byte) ∙ seen_put (context log) (moment_so log byte) (event_for (context log) byte) (events log)

pub seen-header : (log : List ℕ) → length log ≤ 8 → seen_in log ≡ []
unfolding seen_in
seen-header log h = ap (map seen) (events-header log h)

-- ---- places, and how many events an undecided connection has

pub record IsOrderly (role : Role) (log : List Seen) : Type 0 where
  pub placed : IsPlaced log
  pub few : latest_fate role log ≡ None → length (connection log) ≤ most_early_events

orderly_nothing : (role : Role) (log : List Seen) → log ≡ [] → IsOrderly role log
orderly_nothing role log e = subst (IsOrderly role) (sym e) (record { placed = tt; few = λ none. omega arith })

-- where an event doesn't come too early, its connection has few events with it, or is decided
few-next : (role : Role) (e : Seen) (past : List Seen)
    → is_one_too_many (is_connected past) (is_connack_seen role past) (length (connection past)) (is_close e.note) (is_some (connack_of role e.note)) ≡ false
    → latest_fate role (e ∷ past) ≡ None → length (connection (e ∷ past)) ≤ most_early_events
few-next role e past in_time none =
    subst (λ (ms : List Moment). length ms ≤ most_early_events) (sym (connection-next e past)) (go (is_open e.note) (sym (latest_fate-next role e past) ∙ none))
  where
    both_none : (a b : Option Fate) → option_or a b ≡ None → (a ≡ None) × (b ≡ None)
    both_none None b h = (refl, h)
    both_none (Some f) b h = absurd (cc)

    room : (connected connack_seen full closes answers : Bool) → ((connected && (not connack_seen && full)) && not (closes || answers)) ≡ false
        → (connected ≡ false → ⊥) → (connack_seen ≡ true → ⊥) → (closes ≡ true → ⊥) → (answers ≡ true → ⊥) → full ≡ false
    room false connack_seen full closes answers h open_yet unseen goes_on unanswered = absurd (open_yet refl)
    room true true full closes answers h open_yet unseen goes_on unanswered = absurd (unseen refl)
    room true false full true answers h open_yet unseen goes_on unanswered = absurd (goes_on refl)
    room true false full false true h open_yet unseen goes_on unanswered = absurd (unanswered refl)
    room true false true false false h open_yet unseen goes_on unanswered = absurd (cc)
    room true false false false false h open_yet unseen goes_on unanswered = refl

    go : (opens : Bool) → cond opens None (option_or (latest_fate role past) (gives_fate role (newest e past))) ≡ None
        → length (cond opens (newest e past ∷ []) (newest e past ∷ connection past)) ≤ most_early_events
    go true h = omega arith
    go false h =
        let undecided = both_none (latest_fate role past) (gives_fate role (newest e past)) h in
        let full : nat_le most_early_events (length (connection past)) ≡ false =
        room (is_connected past) (is_connack_seen role past) (nat_le most_early_events (length (connection past))) (is_close e.note) (is_some (connack_of role e.note)) in_time
        (λ closed. (let some = closed-decided role past closed in let never = undecided.0 in cc))
        (λ answered. (let some = connack_seen-decided role past answered in let never = undecided.0 in cc))
        (λ closes. (let some = close-gives role e past closes in let never = undecided.1 in cc))
        (λ answers. (let some = connack-gives role e past answers in let never = undecided.1 in cc)) in
        let few : length (connection past) < most_early_events = leb-false most_early_events (length (connection past)) full in
        omega arith

orderly_put : (limit : ℕ) (log : List ℕ) (byte moment : ℕ) (o : Option Event) → 8 ≤ length log → refusal_at limit log byte ≡ None → event_for (context log) byte ≡ o
    → IsOrderly (tested_by none_further log).role (seen_in log) → IsOrderly (tested_by none_further log).role (seen_with (context log) moment o (seen_in log))
orderly_put limit log byte moment None long unrefused is before = before
orderly_put limit log byte moment (Some event) long unrefused is before = record {
  placed = (ap (λ n. n + 1) (events_context log), before.placed);
  few = few-next (tested_by none_further log).role (record { place = record { position = (context log).events + 1; record_no = (context log).records + 1; moment = moment }; note = note_of event }) (seen_in log)
      (unrefused-event limit log byte event long unrefused is);
}

orderly_step : (limit : ℕ) (log : List ℕ) (byte : ℕ) (b : Bool) → nat_lt (length log) 8 ≡ b → refusal_at limit log byte ≡ None
    → IsOrderly (tested_by none_further log).role (seen_in log) → IsOrderly (tested_by none_further (log ++ byte ∷ [])).role (seen_in (log ++ byte ∷ []))
orderly_step limit log byte true is unrefused before =
    let l = length-append log (byte ∷ []) in
    let short = ltb-true (length log) 8 is in
    orderly_nothing (tested_by none_further (log ++ byte ∷ [])).role (seen_in (log ++ byte ∷ [])) (seen-header (log ++ byte ∷ []) (omega arith))
orderly_step limit log byte false is unrefused before =
    let long = ltb-false (length log) 8 is in
    let P : Header → Type 0 = λ header. IsOrderly (role_of header) (seen_in (log ++ byte ∷ [])) in
    subst P (sym (header-unchanged log byte long))
    (subst (IsOrderly (tested_by none_further log).role) (sym (seen-kept log byte))
    (orderly_put limit log byte (moment_so log byte) (event_for (context log) byte) long unrefused refl before))

-- a log that isn't refused is like this
pub orderly : (limit : ℕ) (bytes : List ℕ) → refused limit bytes ≡ None → IsOrderly (tested_by none_further bytes).role (seen_in bytes)
orderly limit bytes =
    along (λ log. refused limit log ≡ None → IsOrderly (tested_by none_further log).role (seen_in log))
    (λ unrefused. orderly_nothing (tested_by none_further []).role (seen_in []) (seen-header [] (omega arith)))
    (λ log byte before unrefused.
    let parts = unrefused-grow limit log byte unrefused in
    orderly_step limit log byte (nat_lt (length log) 8) refl parts.1 (before parts.0))
    bytes

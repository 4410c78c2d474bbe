-- What is kept of a log decides what its next byte does.
use Rattle.std.proofs.Common.{◌≡◌, ℕ, ◌+◌, ◌-◌, ◌<◌, ◌≤◌, Bool, true, false, cond, nat_lt, List, [], ◌∷◌, ◌++◌, length, reverse, Option, Some, None, is_some, refl, sym, ◌∙◌, ap, arith, length-append}
use Rattle.std.specs.Prelude.{◌==◌, if◌then◌else◌, slice_index}
use Rattle.std.proofs.lemmas.List.{reverse-append, reverse-reverse, length-reverse, get_or_append_left, get_or_past, get_or-append_right}
use Rattle.std.proofs.lemmas.Bool.{ltb-true, ltb-false, lt-ltb, le-ltb, eqb-true, eqb-false}
use Rattle.std.specs.Option.{option_or}
use Rattle.mq_log.specs.declared.kind.Direction.{Direction}
use Rattle.mq_log.specs.declared.kind.Direction.TheVariants as directions
use Rattle.mq_log.specs.declared.refusal.Refusal.{Refusal}
use Rattle.mq_log.specs.declared.header.Header.{Header}
use Rattle.mq_log.specs.Pieces.{Pieces}
use Rattle.mq_log.specs.Framing.{header_by, kind_of, direction_of, begun_records, carried, records, record_size, ahead_in, head_length, moment_in}
use Rattle.mq_log.specs.Events.{Event, Placed, newest_record, part_at, packet_at, packet_by, unfinished_at, moment_at, event_in, event_at, with_event, events_back, events}
use Rattle.mq_log.specs.Connections.{begins_connection, has_open_connection, is_connack_seen, events_on_connection, events_before_open}
use Rattle.mq_log.specs.Refusals.{Situation, situation, header_refusal, record_refusal, refusal_at, refused_back, refused}
use Rattle.mq_log.specs.Context.{StreamState, Context, fresh, ahead_of, unfinished_of, state_of, state_then, so_far_by, so_far_for, context, situated, refusal_for, event_for, placed_with, placed_for, put, with_completed, after_header, after_part, after}
use Rattle.mq_log.proofs.FramingLaws.{records-header, begun-header, begun-grow, length-begun-grow, whole-grow, rest-grow, head_least, header-unchanged}
use Rattle.mq_log.proofs.StreamStateLaws.{state-nothing, state-then, so_far-kept}

-- the events with one byte more
events-grow : (log : List ℕ) (byte : ℕ) → events (log ++ byte ∷ []) ≡ with_event (length (begun_records (log ++ byte ∷ []))) (moment_at log byte) (event_at log byte) (events log)
unfolding events events_back
events-grow log byte =
    ap events_back (reverse-append log (byte ∷ []))
    ∙ ap (λ earlier. with_event (length (begun_records (earlier ++ byte ∷ []))) (moment_at earlier byte) (event_at earlier byte) (events_back (reverse log))) (reverse-reverse log)

-- the refusal with one byte more
pub refused-grow : (limit : ℕ) (log : List ℕ) (byte : ℕ) → refused limit (log ++ byte ∷ []) ≡ option_or (refused limit log) (refusal_at limit log byte)
unfolding refused refused_back
refused-grow limit log byte =
    ap (refused_back limit) (reverse-append log (byte ∷ []))
    ∙ ap (λ earlier. option_or (refused_back limit (reverse log)) (refusal_at limit earlier byte)) (reverse-reverse log)

-- the record and the packet of a byte after the header
part-kept : (log : List ℕ) (byte : ℕ) → 8 ≤ length log → part_at log byte ≡ (records log).rest ++ byte ∷ []
unfolding part_at
part-kept log byte h = ap newest_record (begun-grow log byte h)

pub so_far_kept_by : (carries : Option Direction) (log : List ℕ) (byte : ℕ) → packet_by (ahead_in log) carries (begun_records log) byte ≡ so_far_by carries (context log) byte
unfolding context
so_far_kept_by None log byte = refl
so_far_kept_by (Some directions.Sent) log byte = so_far-kept (carried (ahead_in log) directions.Sent (begun_records log)) byte
so_far_kept_by (Some directions.Recv) log byte = so_far-kept (carried (ahead_in log) directions.Recv (begun_records log)) byte

pub part_context : (log : List ℕ) → (context log).part ≡ (records log).rest
unfolding context
part_context log = refl

pub packet-kept : (log : List ℕ) (byte : ℕ) → 8 ≤ length log → packet_at log byte ≡ so_far_for (context log) byte
unfolding packet_at so_far_for context
packet-kept log byte h =
    ap (λ part. cond (nat_lt (ahead_in log) (length part)) (packet_by (ahead_in log) (direction_of (kind_of part)) (begun_records log) byte) []) (part-kept log byte h ∙ ap (λ part. part ++ byte ∷ []) (sym (part_context log)))
    ∙ ap (λ so_far. cond (nat_lt (ahead_in log) (length ((context log).part ++ byte ∷ []))) so_far []) (so_far_kept_by (direction_of (kind_of ((context log).part ++ byte ∷ []))) log byte)

-- a byte of the header belongs to no packet
pub header-so_far : (log : List ℕ) (byte : ℕ) → length log < 8 → so_far_for (context log) byte ≡ []
unfolding so_far_for
header-so_far log byte h =
    let none : (context log).part ≡ [] = part_context log ∙ ap (λ (p : Pieces). p.rest) (records-header log (omega arith)) in
    let ahead = ahead_of (context log) in
    let least = head_least (context log).header.version in
    ap (λ part. cond (nat_lt ahead (length (part ++ byte ∷ []))) (so_far_by (direction_of (kind_of (part ++ byte ∷ []))) (context log) byte) []) none
    ∙ ap (λ b. cond b (so_far_by (direction_of (kind_of (byte ∷ []))) (context log) byte) []) (le-ltb ahead 1 (omega arith))

pub at_context : (log : List ℕ) → (context log).at ≡ length log
unfolding context
at_context log = refl

pub header_context : (log : List ℕ) → (context log).header ≡ header_by log
unfolding context
header_context log = refl

-- what is unfinished on the connection, and whether that is open
pub unfinished-kept : (log : List ℕ) → unfinished_at log ≡ unfinished_of (context log)
unfolding unfinished_at context state_of
unfinished-kept log = refl

pub connected_context : (log : List ℕ) → (context log).connected ≡ has_open_connection (events log)
unfolding context
connected_context log = refl

ahead_context : (log : List ℕ) → ahead_in log ≡ ahead_of (context log)
ahead_context log = ap (λ (t : Header). head_length t.version) (sym (header_context log))

event_by_length : (log : List ℕ) (byte : ℕ) (b : Bool) → nat_lt (length log) 8 ≡ b
    → (if b then None else event_in (unfinished_at log) (ahead_in log) (part_at log byte) (packet_at log byte)) ≡ (if b then None else event_in (unfinished_of (context log)) (ahead_of (context log)) ((context log).part ++ byte ∷ []) (so_far_for (context log) byte))
event_by_length log byte true is = refl
event_by_length log byte false is =
    let long = ltb-false (length log) 8 is in
    ap (λ part. event_in (unfinished_at log) (ahead_in log) part (packet_at log byte)) (part-kept log byte long ∙ ap (λ part. part ++ byte ∷ []) (sym (part_context log)))
    ∙ ap (event_in (unfinished_at log) (ahead_in log) ((context log).part ++ byte ∷ [])) (packet-kept log byte long)
    ∙ ap (λ n. event_in (unfinished_at log) n ((context log).part ++ byte ∷ []) (so_far_for (context log) byte)) (ahead_context log)
    ∙ ap (λ o. event_in o (ahead_of (context log)) ((context log).part ++ byte ∷ []) (so_far_for (context log) byte)) (unfinished-kept log)

-- the event of the next byte, from what is kept
pub event-kept : (log : List ℕ) (byte : ℕ) → event_at log byte ≡ event_for (context log) byte
unfolding event_at event_for
event-kept log byte =
    event_by_length log byte (nat_lt (length log) 8) refl
    ∙ ap (λ n. if nat_lt n 8 then None else event_in (unfinished_of (context log)) (ahead_of (context log)) ((context log).part ++ byte ∷ []) (so_far_for (context log) byte)) (sym (at_context log))

-- its moment, after the header
moment-kept : (log : List ℕ) (byte : ℕ) → 8 ≤ length log → moment_at log byte ≡ moment_in (ahead_of (context log)) ((context log).part ++ byte ∷ [])
unfolding moment_at
moment-kept log byte h =
    ap (moment_in (ahead_in log)) (part-kept log byte h ∙ ap (λ part. part ++ byte ∷ []) (sym (part_context log)))
    ∙ ap (λ n. moment_in n ((context log).part ++ byte ∷ [])) (ahead_context log)

-- the situation of a byte, from the three of its parts that framing gives
abbrev situated_with : List ℕ → List ℕ → ℕ → List ℕ → Situation
situated_with log part record_no so_far = record {
  at = length log;
  header = header_by log;
  part = part;
  record_no = record_no;
  so_far = so_far;
  unfinished = unfinished_at log;
  events = length (events log);
  connected = has_open_connection (events log);
  connack_seen = is_connack_seen (header_by log).server (events log);
  on_connection = events_on_connection (events log);
}

-- The events on the latest connection are those that don't come before its OPEN.
before_within : (log : List Placed) → events_before_open log ≤ length log
before_within [] = omega arith
before_within (e ∷ past) = by (begins_connection e.event) (before_within past)
  where
    by : (b : Bool) → events_before_open past ≤ length past → (if b then length past else events_before_open past) ≤ length (e ∷ past)
    by true within = omega arith
    by false within = omega arith

on_connection : (log : List Placed) → events_on_connection log ≡ length log - events_before_open log
on_connection [] = refl
on_connection (e ∷ past) = by (begins_connection e.event) (before_within past) (on_connection past)
  where
    by : (b : Bool) → events_before_open past ≤ length past → events_on_connection past ≡ length past - events_before_open past
        → (if b then 1 else events_on_connection past + 1) ≡ length (e ∷ past) - (if b then length past else events_before_open past)
    by true within rest = omega arith
    by false within rest = omega arith

situated_context : (log : List ℕ) (byte : ℕ) → situated_with log ((context log).part ++ byte ∷ []) (length (records log).whole + 1) (so_far_for (context log) byte) ≡ situated (context log) byte
unfolding situated context unfinished_at state_of
situated_context log byte =
    ap (λ n. record (situated_with log ((context log).part ++ byte ∷ []) (length (records log).whole + 1) (so_far_for (context log) byte)) { on_connection = n }) (on_connection (events log))

pub situation-kept : (log : List ℕ) (byte : ℕ) → 8 ≤ length log → situation log byte ≡ situated (context log) byte
unfolding situation
situation-kept log byte h =
    ap (λ part. situated_with log part (length (begun_records (log ++ byte ∷ []))) (packet_at log byte)) (part-kept log byte h ∙ ap (λ part. part ++ byte ∷ []) (sym (part_context log)))
    ∙ ap (λ n. situated_with log ((context log).part ++ byte ∷ []) n (packet_at log byte)) (length-begun-grow log byte h)
    ∙ ap (λ so_far. situated_with log ((context log).part ++ byte ∷ []) (length (records log).whole + 1) so_far) (packet-kept log byte h)
    ∙ situated_context log byte

refusal_by_length : (limit : ℕ) (log : List ℕ) (byte : ℕ) (b : Bool) → nat_lt (length log) 8 ≡ b
    → (if b then header_refusal (length log) byte else record_refusal limit (situation log byte)) ≡ (if b then header_refusal (length log) byte else record_refusal limit (situated (context log) byte))
refusal_by_length limit log byte true is = refl
refusal_by_length limit log byte false is = ap (record_refusal limit) (situation-kept log byte (ltb-false (length log) 8 is))

-- the refusal that applies at the next byte, from what is kept
pub refusal-kept : (limit : ℕ) (log : List ℕ) (byte : ℕ) → refusal_at limit log byte ≡ refusal_for limit (context log) byte
unfolding refusal_at refusal_for
refusal-kept limit log byte =
    refusal_by_length limit log byte (nat_lt (length log) 8) refl
    ∙ ap (λ n. if nat_lt n 8 then header_refusal n byte else record_refusal limit (situated (context log) byte)) (sym (at_context log))

-- the events with one byte more, from what is kept
pub events-more : (log : List ℕ) (byte : ℕ) → events (log ++ byte ∷ []) ≡ with_event (length (begun_records (log ++ byte ∷ []))) (moment_at log byte) (event_for (context log) byte) (events log)
events-more log byte =
    events-grow log byte ∙ ap (λ o. with_event (length (begun_records (log ++ byte ∷ []))) (moment_at log byte) o (events log)) (event-kept log byte)

-- a context from its parts, of which the events give the last four
abbrev context_with : ℕ → Header → List ℕ → ℕ → StreamState → StreamState → List Placed → Context
context_with at header part whole sent recv log = record {
  at = at;
  header = header;
  part = part;
  records = whole;
  sent = sent;
  recv = recv;
  events = length log;
  connected = has_open_connection log;
  connack_seen = is_connack_seen header.server log;
  before_open = events_before_open log;
}

pub context_is : (log : List ℕ) → context log ≡ context_with (length log) (header_by log) (records log).rest (length (records log).whole)
    (state_of (carried (ahead_in log) directions.Sent (begun_records log))) (state_of (carried (ahead_in log) directions.Recv (begun_records log))) (events log)
unfolding context
context_is log = refl

noted : (log : List ℕ) (byte moment : ℕ) (o : Option Event)
    → context_with (length log + 1) (header_by log) (cond (is_some (record_size (ahead_in log) ((records log).rest ++ byte ∷ []))) [] ((records log).rest ++ byte ∷ []))
    (cond (is_some (record_size (ahead_in log) ((records log).rest ++ byte ∷ []))) (length (records log).whole + 1) (length (records log).whole))
    (state_then (ahead_in log) directions.Sent (state_of (carried (ahead_in log) directions.Sent (begun_records log))) ((records log).rest ++ byte ∷ []) byte)
    (state_then (ahead_in log) directions.Recv (state_of (carried (ahead_in log) directions.Recv (begun_records log))) ((records log).rest ++ byte ∷ []) byte)
    (with_event (length (records log).whole + 1) moment o (events log))
    ≡ with_completed (after_part (context log) ((records log).rest ++ byte ∷ []) byte) o
unfolding context
noted log byte moment None = refl
noted log byte moment (Some event) =
    let part = (records log).rest ++ byte ∷ [] in
    let c = context_with (length log + 1) (header_by log) (cond (is_some (record_size (ahead_in log) part)) [] part)
    (cond (is_some (record_size (ahead_in log) part)) (length (records log).whole + 1) (length (records log).whole))
    (state_then (ahead_in log) directions.Sent (state_of (carried (ahead_in log) directions.Sent (begun_records log))) part byte)
    (state_then (ahead_in log) directions.Recv (state_of (carried (ahead_in log) directions.Recv (begun_records log))) part byte)
    (record { place = record { position = length (events log) + 1; record_no = length (records log).whole + 1; moment = moment }; event = event } ∷ events log) in
    let one_more : length (record { place = record { position = length (events log) + 1; record_no = length (records log).whole + 1; moment = moment }; event = event } ∷ events log) ≡ length (events log) + 1 = omega arith in
    ap (λ n. record c { events = n }) one_more

pub context-after_header : (log : List ℕ) (byte : ℕ) → 8 ≤ length log → context (log ++ byte ∷ []) ≡ with_completed (after_part (context log) ((records log).rest ++ byte ∷ []) byte) (event_for (context log) byte)
context-after_header log byte h =
    let more = log ++ byte ∷ [] in
    let part = (records log).rest ++ byte ∷ [] in
    let b = is_some (record_size (ahead_in log) part) in
    let sent = state_of (carried (ahead_in more) directions.Sent (begun_records more)) in
    let recv = state_of (carried (ahead_in more) directions.Recv (begun_records more)) in
    let sent' = state_then (ahead_in log) directions.Sent (state_of (carried (ahead_in log) directions.Sent (begun_records log))) part byte in
    let recv' = state_then (ahead_in log) directions.Recv (state_of (carried (ahead_in log) directions.Recv (begun_records log))) part byte in
    let rest' = cond b [] part in
    let whole' = cond b (length (records log).whole + 1) (length (records log).whole) in
    let n' = length (records log).whole + 1 in
    context_is more
    ∙ ap (λ n. context_with n (header_by more) (records more).rest (length (records more).whole) sent recv (events more)) (length-append log (byte ∷ []))
    ∙ ap (λ t. context_with (length log + 1) t (records more).rest (length (records more).whole) sent recv (events more)) (header-unchanged log byte h)
    ∙ ap (λ r. context_with (length log + 1) (header_by log) r (length (records more).whole) sent recv (events more)) (rest-grow log byte h)
    ∙ ap (λ n. context_with (length log + 1) (header_by log) rest' n sent recv (events more)) (whole-grow log byte h)
    ∙ ap (λ x. context_with (length log + 1) (header_by log) rest' whole' x recv (events more)) (state-then directions.Sent log byte h)
    ∙ ap (λ x. context_with (length log + 1) (header_by log) rest' whole' sent' x (events more)) (state-then directions.Recv log byte h)
    ∙ ap (context_with (length log + 1) (header_by log) rest' whole' sent' recv') (events-more log byte ∙ ap (λ n. with_event n (moment_at log byte) (event_for (context log) byte) (events log)) (length-begun-grow log byte h))
    ∙ noted log byte (moment_at log byte) (event_for (context log) byte)

no_event : (log : List ℕ) (byte : ℕ) → length log < 8 → event_at log byte ≡ None
unfolding event_at
no_event log byte h = ap (λ b. if b then None else event_in (unfinished_at log) (ahead_in log) (part_at log byte) (packet_at log byte)) (lt-ltb (length log) 8 h)

-- a header has no events
events_back-header : (back : List ℕ) → length back ≤ 8 → events_back back ≡ []
unfolding events_back
events_back-header [] h = refl
events_back-header (byte ∷ earlier) h =
    let l = length-reverse earlier in
    let short : length (reverse earlier) < 8 = omega arith in
    ap (λ o. with_event (length (begun_records (reverse earlier ++ byte ∷ []))) (moment_at (reverse earlier) byte) o (events_back earlier)) (no_event (reverse earlier) byte short) ∙ events_back-header earlier (omega arith)

pub events-header : (log : List ℕ) → length log ≤ 8 → events log ≡ []
unfolding events
events-header log h = let l = length-reverse log in events_back-header (reverse log) (omega arith)

-- what is kept of a header
pub context-header : (log : List ℕ) → length log ≤ 8 → context log ≡ record fresh { at = length log; header = header_by log }
unfolding carried
context-header log h =
    let none : List Placed = [] in
    let state : StreamState = record { unfinished = []; lost = false } in
    context_is log
    ∙ ap (λ (p : Pieces). context_with (length log) (header_by log) p.rest (length p.whole) (state_of (carried (ahead_in log) directions.Sent (begun_records log))) (state_of (carried (ahead_in log) directions.Recv (begun_records log))) (events log)) (records-header log h)
    ∙ ap (λ b. context_with (length log) (header_by log) [] 0 (state_of (carried (ahead_in log) directions.Sent b)) (state_of (carried (ahead_in log) directions.Recv b)) (events log)) (begun-header log h)
    ∙ ap (λ state. context_with (length log) (header_by log) [] 0 state state (events log)) (nothing_carried)
    ∙ ap (context_with (length log) (header_by log) [] 0 state state) (events-header log h)
  where
    nothing_carried : state_of [] ≡ record { unfinished = []; lost = false }
    nothing_carried = state-nothing

-- the byte at an offset of a log, with one byte more
byte-grow : (i : ℕ) (log : List ℕ) (byte : ℕ) (b : Bool) → (length log == i) ≡ b → slice_index (log ++ byte ∷ []) i ≡ (if b then byte else slice_index log i)
byte-grow i log byte true is =
    let same = eqb-true (length log) i is in
    get_or-append_right log (byte ∷ []) i i 0 same (omega arith) ∙ ap (λ k. slice_index (byte ∷ []) k) (let e : i - i ≡ 0 = omega arith in e)
byte-grow i log byte false is = before (nat_lt i (length log)) refl
  where
    before : (b : Bool) → nat_lt i (length log) ≡ b → slice_index (log ++ byte ∷ []) i ≡ slice_index log i
    before true lt = get_or_append_left log (byte ∷ []) 0 i (ltb-true i (length log) lt)
    before false ge =
        let other = eqb-false (length log) i is in
        let le = ltb-false i (length log) ge in
        let l = length-append log (byte ∷ []) in
        let short : length log < i = strictly (nat_lt (length log) i) refl other le in
        get_or_past (log ++ byte ∷ []) i 0 (omega arith) ∙ sym (get_or_past log i 0 le)
      where
        strictly : (b : Bool) → nat_lt (length log) i ≡ b → (length log ≡ i → ⊥) → length log ≤ i → length log < i
        strictly true lt other le = ltb-true (length log) i lt
        strictly false ge other le = let g = ltb-false (length log) i ge in let same : length log ≡ i = omega arith in absurd (other same)

flag_grow : (b : Bool) (byte n : ℕ) → ((if b then byte else n) == 1) ≡ (if b then byte == 1 else n == 1)
flag_grow true byte n = refl
flag_grow false byte n = refl

header-grow : (log : List ℕ) (byte : ℕ) → header_by (log ++ byte ∷ []) ≡ record {
  version = if length log == 4 then byte else (header_by log).version;
  server = if length log == 5 then byte == 1 else (header_by log).server;
  releases = if length log == 6 then byte == 1 else (header_by log).releases;
}
header-grow log byte =
    ap (λ v. record { version = v; server = slice_index (log ++ byte ∷ []) 5 == 1; releases = slice_index (log ++ byte ∷ []) 6 == 1 }) (byte-grow 4 log byte (length log == 4) refl)
    ∙ ap (λ s. record { version = if length log == 4 then byte else (header_by log).version; server = s; releases = slice_index (log ++ byte ∷ []) 6 == 1 })
    (ap (λ n. n == 1) (byte-grow 5 log byte (length log == 5) refl) ∙ flag_grow (length log == 5) byte (slice_index log 5))
    ∙ ap (λ f. record { version = if length log == 4 then byte else (header_by log).version; server = if length log == 5 then byte == 1 else (header_by log).server; releases = f })
    (ap (λ n. n == 1) (byte-grow 6 log byte (length log == 6) refl) ∙ flag_grow (length log == 6) byte (slice_index log 6))

header-kept : (log : List ℕ) (byte : ℕ) → length log < 8 → context (log ++ byte ∷ []) ≡ after_header (context log) byte
header-kept log byte h =
    let l = length-append log (byte ∷ []) in
    let one : length (log ++ byte ∷ []) ≡ length log + 1 = omega arith in
    context-header (log ++ byte ∷ []) (omega arith)
    ∙ ap (λ n. record fresh { at = n; header = header_by (log ++ byte ∷ []) }) one
    ∙ ap (λ t. record fresh { at = length log + 1; header = t }) (header-grow log byte)
    ∙ sym (ap (λ c. after_header c byte) (context-header log (omega arith)))

event_for-header : (log : List ℕ) (byte : ℕ) → event_for (context log) byte ≡ (if nat_lt (length log) 8 then None else event_in (unfinished_of (context log)) (ahead_of (context log)) ((context log).part ++ byte ∷ []) (so_far_for (context log) byte))
unfolding event_for
event_for-header log byte = ap (λ n. if nat_lt n 8 then None else event_in (unfinished_of (context log)) (ahead_of (context log)) ((context log).part ++ byte ∷ []) (so_far_for (context log) byte)) (at_context log)

kept_by : (log : List ℕ) (byte : ℕ) (b : Bool) → nat_lt (length log) 8 ≡ b
    → context (log ++ byte ∷ []) ≡ (if b then after_header (context log) byte else with_completed (after_part (context log) ((context log).part ++ byte ∷ []) byte) (event_for (context log) byte))
kept_by log byte true is = header-kept log byte (ltb-true (length log) 8 is)
kept_by log byte false is =
    context-after_header log byte (ltb-false (length log) 8 is)
    ∙ ap (λ part. with_completed (after_part (context log) (part ++ byte ∷ []) byte) (event_for (context log) byte)) (sym (part_context log))

-- What is kept of a log with one byte more is what that byte makes of what was kept.
pub context-grow : (log : List ℕ) (byte : ℕ) → context (log ++ byte ∷ []) ≡ after (context log) byte
unfolding after
context-grow log byte =
    kept_by log byte (nat_lt (length log) 8) refl
    ∙ ap (λ n. if nat_lt n 8 then after_header (context log) byte else with_completed (after_part (context log) ((context log).part ++ byte ∷ []) byte) (event_for (context log) byte)) (sym (at_context log))

-- what is kept of no bytes
pub context-nothing : context [] ≡ fresh
context-nothing = context-header [] (omega arith)

placed_kept : (log : List ℕ) (byte : ℕ) (o : Option Event) (n moment : ℕ) → n ≡ (context log).records + 1
    → with_event n moment o (events log) ≡ put (placed_with (context log) moment o) (events log)
unfolding context
placed_kept log byte None n moment e = refl
placed_kept log byte (Some event) n moment e = ap (λ k. record { place = record { position = length (events log) + 1; record_no = k; moment = moment }; event = event } ∷ events log) e

records_context : (log : List ℕ) → (context log).records ≡ length (records log).whole
unfolding context
records_context log = refl

pub event-in-header : (log : List ℕ) (byte : ℕ) → nat_lt (length log) 8 ≡ true → event_for (context log) byte ≡ None
event-in-header log byte is = event_for-header log byte ∙ ap (λ b. if b then None else event_in (unfinished_of (context log)) (ahead_of (context log)) ((context log).part ++ byte ∷ []) (so_far_for (context log) byte)) is

placed_by_length : (log : List ℕ) (byte : ℕ) (b : Bool) → nat_lt (length log) 8 ≡ b
    → with_event (length (begun_records (log ++ byte ∷ []))) (moment_at log byte) (event_for (context log) byte) (events log)
    ≡ put (placed_with (context log) (moment_in (ahead_of (context log)) ((context log).part ++ byte ∷ [])) (event_for (context log) byte)) (events log)
placed_by_length log byte true is =
    let none = event-in-header log byte is in
    ap (λ o. with_event (length (begun_records (log ++ byte ∷ []))) (moment_at log byte) o (events log)) none
    ∙ sym (ap (λ o. put (placed_with (context log) (moment_in (ahead_of (context log)) ((context log).part ++ byte ∷ [])) o) (events log)) none)
placed_by_length log byte false is =
    let long = ltb-false (length log) 8 is in
    ap (λ m. with_event (length (begun_records (log ++ byte ∷ []))) m (event_for (context log) byte) (events log)) (moment-kept log byte long)
    ∙ placed_kept log byte (event_for (context log) byte) (length (begun_records (log ++ byte ∷ []))) (moment_in (ahead_of (context log)) ((context log).part ++ byte ∷ []))
    (length-begun-grow log byte long ∙ ap (λ n. n + 1) (sym (records_context log)))

-- the events of a log with one byte more, from what is kept
pub events-kept : (log : List ℕ) (byte : ℕ) → events (log ++ byte ∷ []) ≡ put (placed_for (context log) byte) (events log)
unfolding placed_for
events-kept log byte = events-more log byte ∙ placed_by_length log byte (nat_lt (length log) 8) refl

-- a refusal stays, whatever follows
refused_back-stays : (limit : ℕ) (more back : List ℕ) (r : Refusal) → refused_back limit back ≡ Some r → refused_back limit (more ++ back) ≡ Some r
unfolding refused_back
refused_back-stays limit [] back r h = h
refused_back-stays limit (byte ∷ more) back r h =
    ap (λ o. option_or o (refusal_at limit (reverse (more ++ back)) byte)) (refused_back-stays limit more back r h)

pub refused-stays : (limit : ℕ) (log more : List ℕ) (r : Refusal) → refused limit log ≡ Some r → refused limit (log ++ more) ≡ Some r
unfolding refused
refused-stays limit log more r h = ap (refused_back limit) (reverse-append log more) ∙ refused_back-stays limit (reverse more) (reverse log) r h

-- nothing is refused of no bytes
pub refused-nothing : (limit : ℕ) → refused limit [] ≡ None
unfolding refused refused_back
refused-nothing limit = refl

pub events-nothing : events [] ≡ []
events-nothing = events-header [] (omega arith)

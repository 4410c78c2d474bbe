-- What one byte of the log's header, of a record's head, or of a RELEASE's body does.
use Rattle.std.proofs.Common.{◌≡◌, ℕ, ◌+◌, ◌-◌, ◌<◌, ◌≤◌, Bool, true, false, cond, ◌&&◌, nat_lt, List, [], ◌∷◌, ◌++◌, length, Option, Some, None, is_some, refl, sym, ◌∙◌, ap, arith, length-append, append_assoc, drop}
use Rattle.std.specs.Prelude.{◌==◌, ◌||◌, nat_le, not, if◌then◌else◌, is_none, option_map}
use Rattle.std.specs.Int.{w16, w32, from_be_bytes}
use Rattle.std.proofs.lemmas.Bool.{le-ltb, lt-ltb, le-leb, lt-leb, eqb-true, eqb-false, eq-eqb, ne_eqb}
use Rattle.std.proofs.lemmas.List.{append-nil, drop_at}
use Rattle.std.specs.Option.{option_or}
use Rattle.mq_packet.specs.Stream.{fixed_header_of, frame_size, is_lost}
use Rattle.mq_log.specs.declared.kind.RecordKind.{RecordKind}
use Rattle.mq_log.specs.declared.kind.RecordKind.TheVariants as kinds
use Rattle.mq_log.specs.declared.kind.Direction.TheVariants as directions
use Rattle.mq_log.specs.declared.refusal.Refusal.{Refusal}
use Rattle.mq_log.specs.declared.refusal.Refusal.TheVariants as refusals
use Rattle.mq_log.specs.Framing.{kind_named, kind_of, body_length, record_size, opens, direction_of, length_end, moment_in}
use Rattle.mq_log.specs.Events.{UnfinishedPackets, Event, opened, closed, rested, released, sent, received, item_at, event_by, event_in, event_of_head}
use Rattle.mq_log.specs.Refusals.{Situation, header_refusal, record_refusal, first_that_applies, comes_too_early, allows_length, is_open_kind, is_release_kind, needs_connection}
use Rattle.mq_log.specs.Connections.{is_too_early}
use Rattle.mq_log.specs.Context.{StreamState, Context, ahead_of, unfinished_of, emptied, so_far_by, so_far_for, situated, refusal_for, event_for, placed_with, placed_for, state_by, state_then, with_completed, after_header, after_part, after, put}
use Rattle.mq_trace.specs.Runs.{after_bytes, refused_in, events_by}
use Rattle.mq_log.proofs.Exports.{head_least, body_length-append, kind_of-append}

-- A byte of the log's header.
pub header_refused : (limit : ℕ) (c : Context) (b : ℕ) → c.at < 8 → refusal_for limit c b ≡ header_refusal c.at b
unfolding refusal_for
header_refused limit c b h = ap (λ t. if t then header_refusal c.at b else record_refusal limit (situated c b)) (lt-ltb c.at 8 h)

pub header_event : (c : Context) (b : ℕ) → c.at < 8 → event_for c b ≡ None
unfolding event_for
header_event c b h = ap (λ t. if t then None else event_in (unfinished_of c) (ahead_of c) (c.part ++ b ∷ []) (so_far_for c b)) (lt-ltb c.at 8 h)

pub header_placed : (c : Context) (b : ℕ) → c.at < 8 → placed_for c b ≡ None
unfolding placed_for
header_placed c b h = ap (placed_with c (moment_in (ahead_of c) (c.part ++ b ∷ []))) (header_event c b h)

pub header_after : (c : Context) (b : ℕ) → c.at < 8 → after c b ≡ after_header c b
unfolding after
header_after c b h = ap (λ t. if t then after_header c b else with_completed (after_part c (c.part ++ b ∷ []) b) (event_for c b)) (lt-ltb c.at 8 h)

-- no bytes are no item
no_item : item_at [] ≡ None
unfolding item_at is_lost frame_size fixed_header_of
no_item = refl

-- the situation of a byte that belongs to no packet, with its record's bytes so far
abbrev situation_with : Context → List ℕ → Situation
situation_with c part = record {
  at = c.at;
  header = c.header;
  part = part;
  record_no = c.records + 1;
  so_far = [];
  unfinished = unfinished_of c;
  events = c.events;
  connected = c.connected;
  connack_seen = c.connack_seen;
  on_connection = c.events - c.before_open;
}

-- the refusal lines of such a byte, with the answers of all tests
abbrev lines_with : Context → List ℕ → (first ends : Bool) → Option RecordKind → Option Event → (long : Bool) → List (Bool × Refusal)
lines_with c part first ends kind event long =
    (first && is_none kind, refusals.Kind c.at)
    ∷ (ends && not (allows_length c.header.version kind (body_length part)), refusals.Length c.at)
    ∷ (first && (is_open_kind kind && c.connected), refusals.Nested c.at)
    ∷ (first && (needs_connection kind && not c.connected), refusals.NotOpen c.at)
    ∷ (first && (is_release_kind kind && not c.header.releases), refusals.ReleaseUnrecorded c.at)
    ∷ (comes_too_early (situation_with c part) event, refusals.TooManyEarly c.at)
    ∷ (long, refusals.TooLong c.at)
    ∷ []

lines_emitted : (limit : ℕ) (c : Context) (part : List ℕ) (first ends : Bool) (kind : Option RecordKind) (event : Option Event) (long : Bool)
    → (length part == 1) ≡ first → (length part == length_end) ≡ ends → kind_of part ≡ kind → event_in (unfinished_of c) (ahead_of c) part [] ≡ event
    → ((first && nat_lt 4294967295 (c.records + 1)) || (is_some event && nat_le 4294967295 c.events)) ≡ long
    → record_refusal limit (situation_with c part) ≡ first_that_applies (lines_with c part first ends kind event long)
unfolding record_refusal frame_size fixed_header_of
lines_emitted limit c part first ends kind event long f e k v l =
    let lines = lines_with c part in
    let no = nat_lt 4294967295 (c.records + 1) in
    let full = nat_le 4294967295 c.events in
    ap (λ t. first_that_applies (lines t (length part == length_end) (kind_of part) (event_in (unfinished_of c) (ahead_of c) part []) ((t && no) || (is_some (event_in (unfinished_of c) (ahead_of c) part []) && full)))) f
    ∙ ap (λ t. first_that_applies (lines first t (kind_of part) (event_in (unfinished_of c) (ahead_of c) part []) ((first && no) || (is_some (event_in (unfinished_of c) (ahead_of c) part []) && full)))) e
    ∙ ap (λ t. first_that_applies (lines first ends t (event_in (unfinished_of c) (ahead_of c) part []) ((first && no) || (is_some (event_in (unfinished_of c) (ahead_of c) part []) && full)))) k
    ∙ ap (λ t. first_that_applies (lines first ends kind t ((first && no) || (is_some t && full)))) v
    ∙ ap (λ t. first_that_applies (lines first ends kind event t)) l

situated_with : (c : Context) (b : ℕ) (part : List ℕ) → c.part ++ b ∷ [] ≡ part → so_far_for c b ≡ [] → situated c b ≡ situation_with c part
unfolding situated
situated_with c b part is none =
    ap (λ bytes. record {
      at = c.at;
      header = c.header;
      part = bytes;
      record_no = c.records + 1;
      so_far = so_far_for c b;
      unfinished = unfinished_of c;
      events = c.events;
      connected = c.connected;
      connack_seen = c.connack_seen;
      on_connection = c.events - c.before_open;
    }) is
    ∙ ap (λ bytes. record {
      at = c.at;
      header = c.header;
      part = part;
      record_no = c.records + 1;
      so_far = bytes;
      unfinished = unfinished_of c;
      events = c.events;
      connected = c.connected;
      connack_seen = c.connack_seen;
      on_connection = c.events - c.before_open;
    }) none

refusal_with : (limit : ℕ) (c : Context) (b : ℕ) (part : List ℕ) → 8 ≤ c.at → c.part ++ b ∷ [] ≡ part → so_far_for c b ≡ [] → refusal_for limit c b ≡ record_refusal limit (situation_with c part)
unfolding refusal_for
refusal_with limit c b part h is none =
    ap (λ t. if t then header_refusal c.at b else record_refusal limit (situated c b)) (le-ltb c.at 8 h)
    ∙ ap (record_refusal limit) (situated_with c b part is none)

event_with : (c : Context) (b : ℕ) (part : List ℕ) → 8 ≤ c.at → c.part ++ b ∷ [] ≡ part → so_far_for c b ≡ [] → event_for c b ≡ event_in (unfinished_of c) (ahead_of c) part []
unfolding event_for
event_with c b part h is none =
    ap (λ t. if t then None else event_in (unfinished_of c) (ahead_of c) (c.part ++ b ∷ []) (so_far_for c b)) (le-ltb c.at 8 h)
    ∙ ap (λ bytes. event_in (unfinished_of c) (ahead_of c) bytes (so_far_for c b)) is
    ∙ ap (event_in (unfinished_of c) (ahead_of c) part) none

-- what is kept after a byte of a record, with its tests' answers
abbrev settled_with : Context → List ℕ → (whole : Bool) → StreamState → StreamState → Context
settled_with c part whole s r = record c {
  at = c.at + 1;
  part = cond whole [] part;
  records = cond whole (c.records + 1) c.records;
  sent = s;
  recv = r;
}

after_with : (c : Context) (b : ℕ) (part : List ℕ) (whole : Bool) (s r : StreamState) (event : Option Event) → 8 ≤ c.at → c.part ++ b ∷ [] ≡ part
    → is_some (record_size (ahead_of c) part) ≡ whole → state_then (ahead_of c) directions.Sent c.sent part b ≡ s → state_then (ahead_of c) directions.Recv c.recv part b ≡ r → event_for c b ≡ event
    → after c b ≡ with_completed (settled_with c part whole s r) event
unfolding after
after_with c b part whole s r event h is w sent_is recv_is completed =
    let kept = settled_with c part in
    ap (λ t. if t then after_header c b else with_completed (after_part c (c.part ++ b ∷ []) b) (event_for c b)) (le-ltb c.at 8 h)
    ∙ ap (λ bytes. with_completed (after_part c bytes b) (event_for c b)) is
    ∙ ap (λ t. with_completed (kept t (state_then (ahead_of c) directions.Sent c.sent part b) (state_then (ahead_of c) directions.Recv c.recv part b)) (event_for c b)) w
    ∙ ap (λ state. with_completed (kept whole state (state_then (ahead_of c) directions.Recv c.recv part b)) (event_for c b)) sent_is
    ∙ ap (λ state. with_completed (kept whole s state) (event_for c b)) recv_is
    ∙ ap (with_completed (kept whole s r)) completed

-- A record's head belongs to no packet, ..
pub head_packet : (c : Context) (b : ℕ) → length c.part < ahead_of c → so_far_for c b ≡ []
unfolding so_far_for
head_packet c b h =
    let l = length-append c.part (b ∷ []) in
    ap (λ t. cond t (so_far_by (direction_of (kind_of (c.part ++ b ∷ []))) c b) []) (le-ltb (ahead_of c) (length (c.part ++ b ∷ [])) (omega arith))

-- .. and leaves the directions as they are, but for an OPEN.
head_sent : (ahead : ℕ) (state : StreamState) (part : List ℕ) (b : ℕ) → length part ≤ ahead → state_then ahead directions.Sent state part b ≡ cond (opens (kind_of part)) emptied state
unfolding state_then
head_sent ahead state part b h = ap (λ t. cond (opens (kind_of part)) emptied (cond t (state_by directions.Sent (direction_of (kind_of part)) state b) state)) (le-ltb ahead (length part) h)

head_recv : (ahead : ℕ) (state : StreamState) (part : List ℕ) (b : ℕ) → length part ≤ ahead → state_then ahead directions.Recv state part b ≡ cond (opens (kind_of part)) emptied state
unfolding state_then
head_recv ahead state part b h = ap (λ t. cond (opens (kind_of part)) emptied (cond t (state_by directions.Recv (direction_of (kind_of part)) state b) state)) (le-ltb ahead (length part) h)

-- Where the head isn't whole, there is no event and no whole record.
headless_event : (unfinished : UnfinishedPackets) (ahead : ℕ) (kind : Option RecordKind) (part : List ℕ) → (length part == ahead) ≡ false → (length part == ahead + 2) ≡ false → event_by unfinished ahead kind part [] ≡ None
headless_event unfinished ahead None part there beyond = refl
headless_event unfinished ahead (Some kinds.Open) part there beyond = ap (λ t. if t then Some opened else None) there
headless_event unfinished ahead (Some kinds.Close) part there beyond = ap (λ t. if t then Some (closed unfinished) else None) there
headless_event unfinished ahead (Some kinds.Rest) part there beyond = ap (λ t. if t then Some rested else None) there
headless_event unfinished ahead (Some kinds.Release) part there beyond = ap (λ t. if t then Some (released (from_be_bytes w16 (drop ahead part))) else None) beyond
headless_event unfinished ahead (Some kinds.Sent) part there beyond = ap (option_map sent) no_item
headless_event unfinished ahead (Some kinds.Recv) part there beyond = ap (option_map received) no_item

headless_in : (unfinished : UnfinishedPackets) (ahead : ℕ) (part : List ℕ) → length part < ahead → event_in unfinished ahead part [] ≡ None
unfolding event_in
headless_in unfinished ahead part short = headless_event unfinished ahead (kind_of part) part (ne_eqb (length part) ahead (λ e. omega arith)) (ne_eqb (length part) (ahead + 2) (λ e. omega arith))

headless_record : (ahead : ℕ) (part : List ℕ) → length part < ahead → is_some (record_size ahead part) ≡ false
unfolding record_size
headless_record ahead part h =
    ap (λ t. is_some (if t then None else (if nat_le (ahead + body_length part) (length part) then Some (ahead + body_length part) else None))) (lt-ltb (length part) ahead h)

or_nothing : (a b : Bool) → (a || (false && b)) ≡ a
or_nothing true b = refl
or_nothing false b = refl

first_part : (c : Context) (b : ℕ) → c.part ≡ [] → c.part ++ b ∷ [] ≡ b ∷ []
first_part c b none = ap (λ part. part ++ b ∷ []) none

first_packet : (c : Context) (b : ℕ) → c.part ≡ [] → so_far_for c b ≡ []
first_packet c b none = let least = head_least c.header.version in let l : length c.part ≡ 0 = ap length none in head_packet c b (omega arith)

first_in : (c : Context) (b : ℕ) → event_in (unfinished_of c) (ahead_of c) (b ∷ []) [] ≡ None
first_in c b = let least = head_least c.header.version in headless_in (unfinished_of c) (ahead_of c) (b ∷ []) (omega arith)

first_kind : (b : ℕ) → kind_of (b ∷ []) ≡ kind_named b
unfolding kind_of
first_kind b = refl

-- The first byte of a record.
pub first_refusal : (limit : ℕ) (c : Context) (b : ℕ) → 8 ≤ c.at → c.part ≡ [] → refusal_for limit c b ≡ first_that_applies (
    (is_none (kind_named b), refusals.Kind c.at)
    ∷ (is_open_kind (kind_named b) && c.connected, refusals.Nested c.at)
    ∷ (needs_connection (kind_named b) && not c.connected, refusals.NotOpen c.at)
    ∷ (is_release_kind (kind_named b) && not c.header.releases, refusals.ReleaseUnrecorded c.at)
    ∷ (nat_lt 4294967295 (c.records + 1), refusals.TooLong c.at)
    ∷ [])
first_refusal limit c b h none =
    refusal_with limit c b (b ∷ []) h (first_part c b none) (first_packet c b none)
    ∙ lines_emitted limit c (b ∷ []) true false (kind_named b) None (nat_lt 4294967295 (c.records + 1)) refl refl (first_kind b) (first_in c b)
    (or_nothing (nat_lt 4294967295 (c.records + 1)) (nat_le 4294967295 c.events))

pub first_event : (c : Context) (b : ℕ) → 8 ≤ c.at → c.part ≡ [] → event_for c b ≡ None
first_event c b h none = event_with c b (b ∷ []) h (first_part c b none) (first_packet c b none) ∙ first_in c b

pub first_after : (c : Context) (b : ℕ) → 8 ≤ c.at → c.part ≡ [] → after c b ≡ record c {
  at = c.at + 1;
  part = b ∷ [];
  sent = cond (opens (kind_named b)) emptied c.sent;
  recv = cond (opens (kind_named b)) emptied c.recv;
}
first_after c b h none =
    let least = head_least c.header.version in
    let opening = ap opens (first_kind b) in
    after_with c b (b ∷ []) false (cond (opens (kind_named b)) emptied c.sent) (cond (opens (kind_named b)) emptied c.recv) None h (first_part c b none)
    (headless_record (ahead_of c) (b ∷ []) (omega arith))
    (head_sent (ahead_of c) c.sent (b ∷ []) b (omega arith) ∙ ap (λ t. cond t emptied c.sent) opening)
    (head_recv (ahead_of c) c.recv (b ∷ []) b (omega arith) ∙ ap (λ t. cond t emptied c.recv) opening)
    (first_event c b h none)

one_longer : (c : Context) (b : ℕ) → length (c.part ++ b ∷ []) ≡ length c.part + 1
one_longer c b = length-append c.part (b ∷ [])

-- a direction that is empty anyway stays as it is
stays : (opening : Bool) (state : StreamState) → (opening ≡ true → state ≡ emptied) → cond opening emptied state ≡ state
stays true state empty = sym (empty refl)
stays false state empty = refl

opens_more : (c : Context) (b : ℕ) → 1 ≤ length c.part → opens (kind_of (c.part ++ b ∷ [])) ≡ opens (kind_of c.part)
opens_more c b some = ap opens (kind_of-append c.part (b ∷ []) (omega arith))

-- After its first byte a record's head leaves the directions as they are.
sent_stays : (c : Context) (b : ℕ) → 1 ≤ length c.part → length c.part < ahead_of c → (opens (kind_of c.part) ≡ true → (c.sent ≡ emptied) × (c.recv ≡ emptied))
    → state_then (ahead_of c) directions.Sent c.sent (c.part ++ b ∷ []) b ≡ c.sent
sent_stays c b some short opening =
    let l = one_longer c b in
    head_sent (ahead_of c) c.sent (c.part ++ b ∷ []) b (omega arith) ∙ ap (λ t. cond t emptied c.sent) (opens_more c b some) ∙ stays (opens (kind_of c.part)) c.sent (λ e. (opening e).0)

recv_stays : (c : Context) (b : ℕ) → 1 ≤ length c.part → length c.part < ahead_of c → (opens (kind_of c.part) ≡ true → (c.sent ≡ emptied) × (c.recv ≡ emptied))
    → state_then (ahead_of c) directions.Recv c.recv (c.part ++ b ∷ []) b ≡ c.recv
recv_stays c b some short opening =
    let l = one_longer c b in
    head_recv (ahead_of c) c.recv (c.part ++ b ∷ []) b (omega arith) ∙ ap (λ t. cond t emptied c.recv) (opens_more c b some) ∙ stays (opens (kind_of c.part)) c.recv (λ e. (opening e).1)

middle_in : (c : Context) (b : ℕ) → length c.part + 1 < ahead_of c → event_in (unfinished_of c) (ahead_of c) (c.part ++ b ∷ []) [] ≡ None
middle_in c b short = let l = one_longer c b in headless_in (unfinished_of c) (ahead_of c) (c.part ++ b ∷ []) (omega arith)

-- with this byte the record's length is whole, and it is allowed
abbrev pub AllowedAt : Context → ℕ → Type 0
AllowedAt c b = length c.part + 1 ≡ length_end → allows_length c.header.version (kind_of (c.part ++ b ∷ [])) (body_length (c.part ++ b ∷ [])) ≡ true

ends_or_allowed : (ends allowed : Bool) → (ends ≡ true → allowed ≡ true) → (ends && not allowed) ≡ false
ends_or_allowed false allowed h = refl
ends_or_allowed true allowed h = ap not (h refl)

-- the first refusal of three, of which the first doesn't apply
passed : (b : Bool) (x : Refusal) (lines : List (Bool × Refusal)) → b ≡ false → first_that_applies ((b, x) ∷ lines) ≡ first_that_applies lines
passed b x lines none = ap (λ t. cond t (Some x) (first_that_applies lines)) none

-- A byte of a record's head between its first and its last one.
pub middle_refusal : (limit : ℕ) (c : Context) (b : ℕ) → 8 ≤ c.at → 1 ≤ length c.part → length c.part + 1 < ahead_of c → AllowedAt c b → refusal_for limit c b ≡ None
middle_refusal limit c b h some short allowed =
    let part = c.part ++ b ∷ [] in
    let l = one_longer c b in
    let ends = length part == length_end in
    refusal_with limit c b part h refl (head_packet c b (omega arith))
    ∙ lines_emitted limit c part false ends (kind_of part) None false (ne_eqb (length part) 1 (λ e. omega arith)) refl refl (middle_in c b short) refl
    ∙ passed (ends && not (allows_length c.header.version (kind_of part) (body_length part))) (refusals.Length c.at) ((false, refusals.TooManyEarly c.at) ∷ (false, refusals.TooLong c.at) ∷ [])
    (ends_or_allowed ends (allows_length c.header.version (kind_of part) (body_length part)) (λ e. allowed (let five : length part ≡ length_end = eqb-true (length part) length_end e in omega arith)))

pub middle_event : (c : Context) (b : ℕ) → 8 ≤ c.at → length c.part + 1 < ahead_of c → event_for c b ≡ None
middle_event c b h short = event_with c b (c.part ++ b ∷ []) h refl (head_packet c b (omega arith)) ∙ middle_in c b short

pub middle_after : (c : Context) (b : ℕ) → 8 ≤ c.at → 1 ≤ length c.part → length c.part + 1 < ahead_of c → (opens (kind_of c.part) ≡ true → (c.sent ≡ emptied) × (c.recv ≡ emptied))
    → after c b ≡ record c { at = c.at + 1; part = c.part ++ b ∷ [] }
middle_after c b h some short opening =
    let l = one_longer c b in
    after_with c b (c.part ++ b ∷ []) false c.sent c.recv None h refl (headless_record (ahead_of c) (c.part ++ b ∷ []) (omega arith))
    (sent_stays c b some (omega arith) opening) (recv_stays c b some (omega arith) opening) (middle_event c b h short)

-- The last byte that a record's length may have.
pub length_refusal : (limit : ℕ) (c : Context) (b : ℕ) → 8 ≤ c.at → length c.part + 1 ≡ length_end → allows_length c.header.version (kind_of (c.part ++ b ∷ [])) (body_length (c.part ++ b ∷ [])) ≡ false
    → refusal_for limit c b ≡ Some (refusals.Length c.at)
length_refusal limit c b h ends barred =
    let part = c.part ++ b ∷ [] in
    let l = one_longer c b in
    let least = head_least c.header.version in
    let event = event_in (unfinished_of c) (ahead_of c) part [] in
    let long = is_some event && nat_le 4294967295 c.events in
    refusal_with limit c b part h refl (head_packet c b (omega arith))
    ∙ lines_emitted limit c part false true (kind_of part) event long (ne_eqb (length part) 1 (λ e. omega arith)) (eq-eqb (length part) length_end (omega arith)) refl refl refl
    ∙ ap (λ t. cond (not t) (Some (refusals.Length c.at)) (first_that_applies ((comes_too_early (situation_with c part) event, refusals.TooManyEarly c.at) ∷ (long, refusals.TooLong c.at) ∷ []))) barred

-- what an event, or none, puts at its place
pub placed_none : (c : Context) (b : ℕ) → event_for c b ≡ None → placed_for c b ≡ None
unfolding placed_for
placed_none c b none = ap (placed_with c (moment_in (ahead_of c) (c.part ++ b ∷ []))) none

pub placed_some : (c : Context) (b : ℕ) (event : Event) → event_for c b ≡ Some event
    → placed_for c b ≡ Some (record { place = record { position = c.events + 1; record_no = c.records + 1; moment = moment_in (ahead_of c) (c.part ++ b ∷ []) }; event = event })
unfolding placed_for
placed_some c b event some = ap (placed_with c (moment_in (ahead_of c) (c.part ++ b ∷ []))) some

pub both_none : {A : Type 0} (a b : Option A) → a ≡ None → b ≡ None → option_or a b ≡ None
both_none a b p q = ap (λ o. option_or o b) p ∙ q

pub nothing_completed : (c : Context) (b : ℕ) (bytes : List ℕ) → event_for c b ≡ None → events_by (after c b) bytes ≡ [] → events_by c (b ∷ bytes) ≡ []
nothing_completed c b bytes none later =
    ap (λ events. events ++ put (placed_for c b) []) later ∙ ap (λ o. put o []) (placed_none c b none)

-- Several such bytes at once.
abbrev pub longer_by : Context → List ℕ → Context
longer_by c bytes = record c { at = c.at + length bytes; part = c.part ++ bytes }

one_more : (c : Context) (byte : ℕ) (bytes : List ℕ) → longer_by (record c { at = c.at + 1; part = c.part ++ byte ∷ [] }) bytes ≡ longer_by c (byte ∷ bytes)
one_more c byte bytes =
    let same : (c.at + 1) + length bytes ≡ c.at + length (byte ∷ bytes) = omega arith in
    ap (λ n. record c { at = n; part = (c.part ++ byte ∷ []) ++ bytes }) same ∙ ap (λ (part : List ℕ). record c { at = c.at + length (byte ∷ bytes); part = part }) (append_assoc c.part (byte ∷ []) bytes)

none_longer : (c : Context) → c ≡ longer_by c []
none_longer c =
    let same : c.at ≡ c.at + length {A = ℕ} [] = omega arith in
    ap (λ n. record c { at = n }) same ∙ ap (λ (part : List ℕ). record c { at = c.at + length {A = ℕ} []; part = part }) (sym (append-nil c.part))

-- a byte of them, and what is kept then
module _ (c : Context) (byte : ℕ) (h : 8 ≤ c.at) (some : 1 ≤ length c.part) (opening : opens (kind_of c.part) ≡ true → (c.sent ≡ emptied) × (c.recv ≡ emptied)) where
  abbrev next : Context
  next = record c { at = c.at + 1; part = c.part ++ byte ∷ [] }

  next_some : 1 ≤ length next.part
  next_some = let l = one_longer c byte in omega arith

  next_opening : opens (kind_of next.part) ≡ true → (next.sent ≡ emptied) × (next.recv ≡ emptied)
  next_opening e = opening (sym (opens_more c byte some) ∙ e)

pub middles_after : (c : Context) (bytes : List ℕ) → 8 ≤ c.at → 1 ≤ length c.part → length c.part + length bytes < ahead_of c → (opens (kind_of c.part) ≡ true → (c.sent ≡ emptied) × (c.recv ≡ emptied))
    → after_bytes c bytes ≡ longer_by c bytes
middles_after c [] h some short opening = none_longer c
middles_after c (byte ∷ bytes) h some short opening =
    let l = one_longer c byte in
    ap (λ d. after_bytes d bytes) (middle_after c byte h some (omega arith) opening)
    ∙ middles_after (next c byte h some opening) bytes (omega arith) (next_some c byte h some opening) (omega arith) (next_opening c byte h some opening)
    ∙ one_more c byte bytes

pub middles_events : (c : Context) (bytes : List ℕ) → 8 ≤ c.at → 1 ≤ length c.part → length c.part + length bytes < ahead_of c → (opens (kind_of c.part) ≡ true → (c.sent ≡ emptied) × (c.recv ≡ emptied))
    → events_by c bytes ≡ []
middles_events c [] h some short opening = refl
middles_events c (byte ∷ bytes) h some short opening =
    let l = one_longer c byte in
    nothing_completed c byte bytes (middle_event c byte h (omega arith))
    (ap (λ d. events_by d bytes) (middle_after c byte h some (omega arith) opening)
    ∙ middles_events (next c byte h some opening) bytes (omega arith) (next_some c byte h some opening) (omega arith) (next_opening c byte h some opening))

-- the length that they end is allowed
abbrev pub AllowedAmong : Context → List ℕ → Type 0
AllowedAmong c bytes = (front later : List ℕ) (byte : ℕ) → bytes ≡ front ++ byte ∷ later → length c.part + length front + 1 ≡ length_end
    → allows_length c.header.version (kind_of (c.part ++ (front ++ byte ∷ []))) (body_length (c.part ++ (front ++ byte ∷ []))) ≡ true

pub middles_refused : (limit : ℕ) (c : Context) (bytes : List ℕ) → 8 ≤ c.at → 1 ≤ length c.part → length c.part + length bytes < ahead_of c → (opens (kind_of c.part) ≡ true → (c.sent ≡ emptied) × (c.recv ≡ emptied))
    → AllowedAmong c bytes → refused_in limit c bytes ≡ None
middles_refused limit c [] h some short opening allowed = refl
middles_refused limit c (byte ∷ bytes) h some short opening allowed =
    let l = one_longer c byte in
    both_none (refusal_for limit c byte) (refused_in limit (after c byte) bytes)
    (middle_refusal limit c byte h some (omega arith) (λ e. allowed [] bytes byte refl (omega arith)))
    (ap (λ d. refused_in limit d bytes) (middle_after c byte h some (omega arith) opening)
    ∙ middles_refused limit (next c byte h some opening) bytes (omega arith) (next_some c byte h some opening) (omega arith) (next_opening c byte h some opening)
    (λ front later b is ends. (
    let assoc : (c.part ++ byte ∷ []) ++ (front ++ b ∷ []) ≡ c.part ++ ((byte ∷ front) ++ b ∷ []) = append_assoc c.part (byte ∷ []) (front ++ b ∷ []) in
    ap (λ part. allows_length c.header.version (kind_of part) (body_length part)) assoc
    ∙ allowed (byte ∷ front) later b (ap (λ (rest : List ℕ). byte ∷ rest) is) (omega arith))))

-- The last byte of a record's head: the length that a head says, ..
pub fifth_length : (k x y z b : ℕ) → body_length (k ∷ x ∷ y ∷ z ∷ b ∷ []) ≡ from_be_bytes w32 (x ∷ y ∷ z ∷ b ∷ [])
unfolding body_length
fifth_length k x y z b = refl

-- .. and the event.
head_event : (unfinished : UnfinishedPackets) (ahead : ℕ) (kind : RecordKind) (part : List ℕ) → (length part == ahead) ≡ true → (length part == ahead + 2) ≡ false → event_by unfinished ahead (Some kind) part [] ≡ event_of_head unfinished kind
head_event unfinished ahead kinds.Open part there beyond = ap (λ t. if t then Some opened else None) there
head_event unfinished ahead kinds.Close part there beyond = ap (λ t. if t then Some (closed unfinished) else None) there
head_event unfinished ahead kinds.Rest part there beyond = ap (λ t. if t then Some rested else None) there
head_event unfinished ahead kinds.Release part there beyond = ap (λ t. if t then Some (released (from_be_bytes w16 (drop ahead part))) else None) beyond
head_event unfinished ahead kinds.Sent part there beyond = ap (option_map sent) no_item
head_event unfinished ahead kinds.Recv part there beyond = ap (option_map received) no_item

-- an event comes too early, from what is kept
abbrev pub kept_too_early : Context → Option Event → Bool
kept_too_early c event = is_too_early c.header.server c.connected c.connack_seen (c.events - c.before_open) event

-- the kind of a record with a byte more
kind_more : (c : Context) (b : ℕ) (kind : RecordKind) → 1 ≤ length c.part → kind_of c.part ≡ Some kind → kind_of (c.part ++ b ∷ []) ≡ Some kind
kind_more c b kind some is = kind_of-append c.part (b ∷ []) (omega arith) ∙ is

last_in : (c : Context) (b : ℕ) (kind : RecordKind) → length c.part + 1 ≡ ahead_of c → kind_of c.part ≡ Some kind → event_in (unfinished_of c) (ahead_of c) (c.part ++ b ∷ []) [] ≡ event_of_head (unfinished_of c) kind
unfolding event_in
last_in c b kind ends is =
    let l = one_longer c b in
    let least = head_least c.header.version in
    ap (λ k. event_by (unfinished_of c) (ahead_of c) k (c.part ++ b ∷ []) []) (kind_more c b kind (omega arith) is)
    ∙ head_event (unfinished_of c) (ahead_of c) kind (c.part ++ b ∷ []) (eq-eqb (length (c.part ++ b ∷ [])) (ahead_of c) (omega arith)) (ne_eqb (length (c.part ++ b ∷ [])) (ahead_of c + 2) (λ e. omega arith))

pub last_event : (c : Context) (b : ℕ) (kind : RecordKind) → 8 ≤ c.at → length c.part + 1 ≡ ahead_of c → kind_of c.part ≡ Some kind → event_for c b ≡ event_of_head (unfinished_of c) kind
last_event c b kind h ends is = event_with c b (c.part ++ b ∷ []) h refl (head_packet c b (omega arith)) ∙ last_in c b kind ends is

pub last_refusal : (limit : ℕ) (c : Context) (b : ℕ) (kind : RecordKind) → 8 ≤ c.at → length c.part + 1 ≡ ahead_of c → kind_of c.part ≡ Some kind
    → allows_length c.header.version (Some kind) (body_length (c.part ++ b ∷ [])) ≡ true
    → refusal_for limit c b ≡ first_that_applies (
    (kept_too_early c (event_of_head (unfinished_of c) kind), refusals.TooManyEarly c.at)
    ∷ (is_some (event_of_head (unfinished_of c) kind) && nat_le 4294967295 c.events, refusals.TooLong c.at)
    ∷ [])
last_refusal limit c b kind h ends is allowed =
    let part = c.part ++ b ∷ [] in
    let l = one_longer c b in
    let least = head_least c.header.version in
    let long = is_some (event_of_head (unfinished_of c) kind) && nat_le 4294967295 c.events in
    let whole = length part == length_end in
    refusal_with limit c b part h refl (head_packet c b (omega arith))
    ∙ lines_emitted limit c part false whole (Some kind) (event_of_head (unfinished_of c) kind) long (ne_eqb (length part) 1 (λ e. omega arith)) refl
    (kind_more c b kind (omega arith) is) (last_in c b kind ends is) refl
    ∙ passed (whole && not (allows_length c.header.version (Some kind) (body_length part))) (refusals.Length c.at) ((kept_too_early c (event_of_head (unfinished_of c) kind), refusals.TooManyEarly c.at) ∷ (long, refusals.TooLong c.at) ∷ [])
    (ends_or_allowed whole (allows_length c.header.version (Some kind) (body_length part)) (λ e. allowed))

some_if : (t : Bool) (n : ℕ) → is_some (if t then Some n else None) ≡ t
some_if true n = refl
some_if false n = refl

-- Whether a record is whole whose head is there.
pub headed_record : (ahead : ℕ) (part : List ℕ) → ahead ≤ length part → is_some (record_size ahead part) ≡ nat_le (ahead + body_length part) (length part)
unfolding record_size
headed_record ahead part h =
    ap (λ t. is_some (if t then None else (if nat_le (ahead + body_length part) (length part) then Some (ahead + body_length part) else None))) (le-ltb (length part) ahead h)
    ∙ some_if (nat_le (ahead + body_length part) (length part)) (ahead + body_length part)

bodiless : (ahead n m : ℕ) → m ≡ ahead → (t : Bool) → (n == 0) ≡ t → nat_le (ahead + n) m ≡ t
bodiless ahead n m ends true is = let none = eqb-true n 0 is in le-leb (ahead + n) m (omega arith)
bodiless ahead n m ends false is = let some = eqb-false n 0 is in lt-leb (ahead + n) m (omega (arith, some))

pub last_after : (c : Context) (b : ℕ) → 8 ≤ c.at → length c.part + 1 ≡ ahead_of c → (opens (kind_of c.part) ≡ true → (c.sent ≡ emptied) × (c.recv ≡ emptied))
    → after c b ≡ with_completed (record c {
      at = c.at + 1;
      part = cond (body_length (c.part ++ b ∷ []) == 0) [] (c.part ++ b ∷ []);
      records = cond (body_length (c.part ++ b ∷ []) == 0) (c.records + 1) c.records;
    }) (event_for c b)
last_after c b h ends opening =
    let part = c.part ++ b ∷ [] in
    let l = one_longer c b in
    let least = head_least c.header.version in
    after_with c b part (body_length part == 0) c.sent c.recv (event_for c b) h refl
    (headed_record (ahead_of c) part (omega arith) ∙ bodiless (ahead_of c) (body_length part) (length part) (omega arith) (body_length part == 0) refl)
    (sent_stays c b (omega arith) (omega arith) opening) (recv_stays c b (omega arith) (omega arith) opening) refl

-- A RELEASE carries no packets.
either_direction : {A : Type 0} (t : Bool) (a : A) → cond t a a ≡ a
either_direction true a = refl
either_direction false a = refl

release_packet : (c : Context) (b : ℕ) → kind_of (c.part ++ b ∷ []) ≡ Some kinds.Release → so_far_for c b ≡ []
unfolding so_far_for
release_packet c b is =
    ap (λ k. cond (nat_lt (ahead_of c) (length (c.part ++ b ∷ []))) (so_far_by (direction_of k) c b) []) is ∙ either_direction (nat_lt (ahead_of c) (length (c.part ++ b ∷ []))) []

release_sent : (ahead : ℕ) (state : StreamState) (part : List ℕ) (b : ℕ) → kind_of part ≡ Some kinds.Release → state_then ahead directions.Sent state part b ≡ state
unfolding state_then
release_sent ahead state part b is =
    ap (λ k. cond (opens k) emptied (cond (nat_lt ahead (length part)) (state_by directions.Sent (direction_of k) state b) state)) is ∙ either_direction (nat_lt ahead (length part)) state

release_recv : (ahead : ℕ) (state : StreamState) (part : List ℕ) (b : ℕ) → kind_of part ≡ Some kinds.Release → state_then ahead directions.Recv state part b ≡ state
unfolding state_then
release_recv ahead state part b is =
    ap (λ k. cond (opens k) emptied (cond (nat_lt ahead (length part)) (state_by directions.Recv (direction_of k) state b) state)) is ∙ either_direction (nat_lt ahead (length part)) state

release_in : (unfinished : UnfinishedPackets) (ahead : ℕ) (part : List ℕ) (whole : Bool) → kind_of part ≡ Some kinds.Release → (length part == ahead + 2) ≡ whole
    → event_in unfinished ahead part [] ≡ (if whole then Some (released (from_be_bytes w16 (drop ahead part))) else None)
unfolding event_in
release_in unfinished ahead part whole is beyond =
    ap (λ k. event_by unfinished ahead k part []) is ∙ ap (λ t. if t then Some (released (from_be_bytes w16 (drop ahead part))) else None) beyond

-- The first byte of a RELEASE's body ..
pub release_high_refusal : (limit : ℕ) (c : Context) (b : ℕ) → 8 ≤ c.at → kind_of c.part ≡ Some kinds.Release → length c.part ≡ ahead_of c → refusal_for limit c b ≡ None
release_high_refusal limit c b h is five =
    let part = c.part ++ b ∷ [] in
    let l = one_longer c b in
    let least = head_least c.header.version in
    let kind = kind_more c b kinds.Release (omega arith) is in
    refusal_with limit c b part h refl (release_packet c b kind)
    ∙ lines_emitted limit c part false false (Some kinds.Release) None false (ne_eqb (length part) 1 (λ e. omega arith)) (ne_eqb (length part) length_end (λ e. omega arith)) kind
    (release_in (unfinished_of c) (ahead_of c) part false kind (ne_eqb (length part) (ahead_of c + 2) (λ e. omega arith))) refl

pub release_high_event : (c : Context) (b : ℕ) → 8 ≤ c.at → kind_of c.part ≡ Some kinds.Release → length c.part ≡ ahead_of c → event_for c b ≡ None
release_high_event c b h is five =
    let part = c.part ++ b ∷ [] in
    let l = one_longer c b in
    let least = head_least c.header.version in
    let kind = kind_more c b kinds.Release (omega arith) is in
    event_with c b part h refl (release_packet c b kind) ∙ release_in (unfinished_of c) (ahead_of c) part false kind (ne_eqb (length part) (ahead_of c + 2) (λ e. omega arith))

pub release_high_after : (c : Context) (b : ℕ) → 8 ≤ c.at → kind_of c.part ≡ Some kinds.Release → body_length c.part ≡ 2 → length c.part ≡ ahead_of c
    → after c b ≡ record c { at = c.at + 1; part = c.part ++ b ∷ [] }
release_high_after c b h is two five =
    let part = c.part ++ b ∷ [] in
    let l = one_longer c b in
    let least = head_least c.header.version in
    let kind = kind_more c b kinds.Release (omega arith) is in
    let same : body_length part ≡ 2 = body_length-append c.part (b ∷ []) (omega arith) ∙ two in
    after_with c b part false c.sent c.recv None h refl (headed_record (ahead_of c) part (omega arith) ∙ lt-leb (ahead_of c + body_length part) (length part) (omega arith))
    (release_sent (ahead_of c) c.sent part b kind) (release_recv (ahead_of c) c.recv part b kind) (release_high_event c b h is five)

-- .. and the second, with which its Packet Identifier is there.
six_long : (c : Context) (head : List ℕ) (first : ℕ) → c.part ≡ head ++ first ∷ [] → length head ≡ ahead_of c → length c.part ≡ ahead_of c + 1
six_long c head first is five = let l = ap length is in let m = length-append head (first ∷ []) in omega arith

identifier_bytes : (c : Context) (b : ℕ) (head : List ℕ) (first : ℕ) → c.part ≡ head ++ first ∷ [] → length head ≡ ahead_of c → drop (ahead_of c) (c.part ++ b ∷ []) ≡ first ∷ b ∷ []
identifier_bytes c b head first is five =
    ap (λ part. drop (ahead_of c) (part ++ b ∷ [])) is ∙ ap (drop (ahead_of c)) (append_assoc head (first ∷ []) (b ∷ [])) ∙ drop_at head (first ∷ b ∷ []) (ahead_of c) five

release_low_in : (c : Context) (b : ℕ) (head : List ℕ) (first : ℕ) → kind_of c.part ≡ Some kinds.Release → c.part ≡ head ++ first ∷ [] → length head ≡ ahead_of c
    → event_in (unfinished_of c) (ahead_of c) (c.part ++ b ∷ []) [] ≡ Some (released (from_be_bytes w16 (first ∷ b ∷ [])))
release_low_in c b head first kind is five =
    let l = one_longer c b in
    let least = head_least c.header.version in
    let six = six_long c head first is five in
    release_in (unfinished_of c) (ahead_of c) (c.part ++ b ∷ []) true (kind_more c b kinds.Release (omega arith) kind) (eq-eqb (length (c.part ++ b ∷ [])) (ahead_of c + 2) (omega arith))
    ∙ ap (λ bytes. Some (released (from_be_bytes w16 bytes))) (identifier_bytes c b head first is five)

pub release_low_event : (c : Context) (b : ℕ) (head : List ℕ) (first : ℕ) → 8 ≤ c.at → kind_of c.part ≡ Some kinds.Release → c.part ≡ head ++ first ∷ [] → length head ≡ ahead_of c
    → event_for c b ≡ Some (released (from_be_bytes w16 (first ∷ b ∷ [])))
release_low_event c b head first h kind is five =
    let six = six_long c head first is five in
    event_with c b (c.part ++ b ∷ []) h refl (release_packet c b (kind_more c b kinds.Release (omega arith) kind)) ∙ release_low_in c b head first kind is five

pub release_low_refusal : (limit : ℕ) (c : Context) (b : ℕ) (head : List ℕ) (first : ℕ) → 8 ≤ c.at → kind_of c.part ≡ Some kinds.Release → c.part ≡ head ++ first ∷ [] → length head ≡ ahead_of c
    → refusal_for limit c b ≡ first_that_applies (
    (kept_too_early c (Some (released (from_be_bytes w16 (first ∷ b ∷ [])))), refusals.TooManyEarly c.at)
    ∷ (nat_le 4294967295 c.events, refusals.TooLong c.at)
    ∷ [])
release_low_refusal limit c b head first h kind is five =
    let part = c.part ++ b ∷ [] in
    let l = one_longer c b in
    let least = head_least c.header.version in
    let six = six_long c head first is five in
    let more = kind_more c b kinds.Release (omega arith) kind in
    refusal_with limit c b part h refl (release_packet c b more)
    ∙ lines_emitted limit c part false false (Some kinds.Release) (Some (released (from_be_bytes w16 (first ∷ b ∷ [])))) (nat_le 4294967295 c.events)
    (ne_eqb (length part) 1 (λ e. omega arith)) (ne_eqb (length part) length_end (λ e. omega arith)) more (release_low_in c b head first kind is five) refl

pub release_low_after : (c : Context) (b : ℕ) (head : List ℕ) (first : ℕ) → 8 ≤ c.at → kind_of c.part ≡ Some kinds.Release → body_length c.part ≡ 2 → c.part ≡ head ++ first ∷ [] → length head ≡ ahead_of c
    → after c b ≡ with_completed (record c { at = c.at + 1; part = []; records = c.records + 1 }) (Some (released (from_be_bytes w16 (first ∷ b ∷ []))))
release_low_after c b head first h kind two is five =
    let part = c.part ++ b ∷ [] in
    let l = one_longer c b in
    let least = head_least c.header.version in
    let six = six_long c head first is five in
    let more = kind_more c b kinds.Release (omega arith) kind in
    let same : body_length part ≡ 2 = body_length-append c.part (b ∷ []) (omega arith) ∙ two in
    after_with c b part true c.sent c.recv (Some (released (from_be_bytes w16 (first ∷ b ∷ [])))) h refl (headed_record (ahead_of c) part (omega arith) ∙ le-leb (ahead_of c + body_length part) (length part) (omega arith))
    (release_sent (ahead_of c) c.sent part b more) (release_recv (ahead_of c) c.recv part b more) (release_low_event c b head first h kind is five)

-- A record that carries packets may be split in two: the events are the same but for the numbers of their records.
use Rattle.std.proofs.Common.{◌≡◌, ℕ, ◌+◌, ◌<◌, ◌≤◌, ◌^◌, Bool, true, false, cond, List, [], ◌∷◌, ◌++◌, length, Option, Some, None, refl, sym, ◌∙◌, ap, arith, append_assoc, length-append}
use Rattle.std.specs.Prelude.{◌==◌, nat_lt, if◌then◌else◌, is_some, map, option_map}
use Rattle.std.specs.Int.{w32, w64, to_be_bytes}
use Rattle.std.proofs.lemmas.List.{append-nil, map-append}
use Rattle.std.proofs.lemmas.Bool.{le-ltb, eq-eqb, ne_eqb}
use Rattle.std.proofs.lemmas.Nat.{from_be_bytes-to_be_bytes_4}
use Rattle.mq_log.specs.declared.header.Header.{Header}
use Rattle.mq_log.specs.declared.kind.Direction.{Direction}
use Rattle.mq_log.specs.declared.kind.Direction.TheVariants as directions
use Rattle.mq_log.specs.Framing.{kind_named, kind_of, body_length, record_size, direction_of, records, header_by, spelled_from, moment_in, length_end, head_length}
use Rattle.mq_log.specs.Events.{Event, Placed, item_at, event_in, events}
use Rattle.mq_log.specs.Context.{Context, ahead_of, unfinished_of, context, so_far_in, so_far_by, so_far_for, state_after, with_completed, after_header, after_part, after, put, placed_with, placed_for, event_for}
use Rattle.mq_trace.specs.Runs.{after_bytes, events_by}
use Rattle.mq_log.specs.Flows.{BodyContext, Flow, item_event, flow_event, flow_placed, flow_placed_with, flow_with, flow_after, flow_after_bytes, flow_events, context_in, flow_in, flowed}
use Rattle.mq_trace.specs.Writing.{sent_record, received_record, record_bytes, moment_bytes, framed}
use Rattle.mq_trace.specs.Stepping.{kind_for}
use Rattle.mq_trace.specs.Splitting.{but_record}
use Rattle.mq_log.proofs.Exports.{part_context, at_context, header_context}
use Rattle.mq_trace.proofs.FlowLaws.{flow_after_bytes-append, events-append}
use Rattle.mq_trace.proofs.LiftLaws.{lifted-events, lifted-after_bytes}
use Rattle.mq_trace.proofs.RunLaws.{after_bytes_append, events_append, events_run}
use Rattle.mq_trace.proofs.MomentLaws.{moment_so_far}
use Rattle.mq_trace.proofs.HeadLaws.{headed, head_after, head_events}

-- what is kept of a log, but for how many bytes and whole records came
abbrev counted : Context → ℕ → ℕ → Context
counted c at count = record c { at = at; records = count }

so_far_same : (direction : Option Direction) (c : Context) (at count byte : ℕ) → so_far_by direction (counted c at count) byte ≡ so_far_by direction c byte
so_far_same None c at count byte = refl
so_far_same (Some directions.Sent) c at count byte = refl
so_far_same (Some directions.Recv) c at count byte = refl

so_far_counted : (c : Context) (at count byte : ℕ) → so_far_for (counted c at count) byte ≡ so_far_for c byte
unfolding so_far_for
so_far_counted c at count byte =
    ap (λ t. cond (nat_lt (ahead_of c) (length (c.part ++ byte ∷ []))) t []) (so_far_same (direction_of (kind_of (c.part ++ byte ∷ []))) c at count byte)

-- The next byte's event doesn't depend on those numbers, ..
event_known : (c : Context) (byte : ℕ) → 8 ≤ c.at → event_for c byte ≡ event_in (unfinished_of c) (ahead_of c) (c.part ++ byte ∷ []) (so_far_for c byte)
unfolding event_for
event_known c byte h = ap (λ t. if t then None else event_in (unfinished_of c) (ahead_of c) (c.part ++ byte ∷ []) (so_far_for c byte)) (le-ltb c.at 8 h)

event_counted : (c : Context) (at count byte : ℕ) → 8 ≤ c.at → 8 ≤ at → event_for (counted c at count) byte ≡ event_for c byte
event_counted c at count byte h h' =
    event_known (counted c at count) byte h'
    ∙ ap (event_in (unfinished_of c) (ahead_of c) (c.part ++ byte ∷ [])) (so_far_counted c at count byte)
    ∙ sym (event_known c byte h)

-- .. nor does what is kept after it, but for themselves.
after_known : (c : Context) (byte : ℕ) → 8 ≤ c.at → after c byte ≡ with_completed (after_part c (c.part ++ byte ∷ []) byte) (event_for c byte)
unfolding after
after_known c byte h = ap (λ t. if t then after_header c byte else with_completed (after_part c (c.part ++ byte ∷ []) byte) (event_for c byte)) (le-ltb c.at 8 h)

abbrev count_after : Context → ℕ → ℕ → ℕ
count_after c count byte = cond (is_some (record_size (ahead_of c) (c.part ++ byte ∷ []))) (count + 1) count

with_counted : (c : Context) (at count : ℕ) (event : Option Event) → with_completed (counted c at count) event ≡ counted (with_completed c event) at count
with_counted c at count None = refl
with_counted c at count (Some event) = refl

after_counted : (c : Context) (at count byte : ℕ) → 8 ≤ c.at → 8 ≤ at → after (counted c at count) byte ≡ counted (after c byte) (at + 1) (count_after c count byte)
after_counted c at count byte h h' =
    after_known (counted c at count) byte h'
    ∙ ap (with_completed (after_part (counted c at count) (c.part ++ byte ∷ []) byte)) (event_counted c at count byte h h')
    ∙ with_counted (after_part c (c.part ++ byte ∷ []) byte) (at + 1) (count_after c count byte) (event_for c byte)
    ∙ ap (λ d. counted d (at + 1) (count_after c count byte)) (sym (after_known c byte h))

with_at : (c : Context) (event : Option Event) → (with_completed c event).at ≡ c.at
with_at c None = refl
with_at c (Some event) = refl

after_at : (c : Context) (byte : ℕ) → 8 ≤ c.at → (after c byte).at ≡ c.at + 1
after_at c byte h = ap (λ d. d.at) (after_known c byte h) ∙ with_at (after_part c (c.part ++ byte ∷ []) byte) (event_for c byte)

placed_same : (c : Context) (at count moment : ℕ) (event : Option Event)
    → map but_record (put (placed_with (counted c at count) moment event) []) ≡ map but_record (put (placed_with c moment event) [])
placed_same c at count moment None = refl
placed_same c at count moment (Some event) = refl

placed_counted : (c : Context) (at count byte : ℕ) → 8 ≤ c.at → 8 ≤ at
    → map but_record (put (placed_for (counted c at count) byte) []) ≡ map but_record (put (placed_for c byte) [])
unfolding placed_for
placed_counted c at count byte h h' =
    let moment = moment_in (ahead_of c) (c.part ++ byte ∷ []) in
    ap (λ event. map but_record (put (placed_with (counted c at count) moment event) [])) (event_counted c at count byte h h')
    ∙ placed_same c at count moment (event_for c byte)

-- lists that are the same but for the numbers of records, joined
both_same : (a a' b b' : List Placed) → map but_record a ≡ map but_record a' → map but_record b ≡ map but_record b' → map but_record (a ++ b) ≡ map but_record (a' ++ b')
both_same a a' b b' e f =
    map-append but_record a b
    ∙ ap (λ t. t ++ map but_record b) e
    ∙ ap (λ t. map but_record a' ++ t) f
    ∙ sym (map-append but_record a' b')

events_counted : (c : Context) (at count : ℕ) (bytes : List ℕ) → 8 ≤ c.at → 8 ≤ at → map but_record (events_by (counted c at count) bytes) ≡ map but_record (events_by c bytes)
events_counted c at count [] h h' = refl
events_counted c at count (byte ∷ bytes) h h' =
    let next : (after c byte).at ≡ c.at + 1 = after_at c byte h in
    both_same (events_by (after (counted c at count) byte) bytes) (events_by (after c byte) bytes) (put (placed_for (counted c at count) byte) []) (put (placed_for c byte) [])
    (ap (λ d. map but_record (events_by d bytes)) (after_counted c at count byte h h')
    ∙ events_counted (after c byte) (at + 1) (count_after c count byte) bytes (omega arith) (omega arith))
    (placed_counted c at count byte h h')

-- what stays in a body, with another number of its record, and a flow with another count of the log's bytes
abbrev numbered : BodyContext → ℕ → BodyContext
numbered around count = record around { in_record = record { record_no = count; moment = around.in_record.moment } }

abbrev moved : Flow → ℕ → Flow
moved f at = record f { at = at }

flow_with_moved : (around : BodyContext) (f : Flow) (count at : ℕ) (event : Option Event) → flow_with (numbered around count) (moved f at) event ≡ moved (flow_with around f event) at
flow_with_moved around f count at None = refl
flow_with_moved around f count at (Some event) = refl

flow_after_moved : (around : BodyContext) (f : Flow) (count at byte : ℕ) → flow_after (numbered around count) (moved f at) byte ≡ moved (flow_after around f byte) (at + 1)
unfolding flow_after flow_event
flow_after_moved around f count at byte =
    flow_with_moved around (record f { at = f.at + 1; state = state_after f.state byte }) count (at + 1) (option_map (item_event around.direction) (item_at (so_far_in f.state byte)))

flow_placed_same : (around : BodyContext) (f : Flow) (count at : ℕ) (event : Option Event)
    → map but_record (put (flow_placed_with (numbered around count) (moved f at) event) []) ≡ map but_record (put (flow_placed_with around f event) [])
flow_placed_same around f count at None = refl
flow_placed_same around f count at (Some event) = refl

flow_placed_moved : (around : BodyContext) (f : Flow) (count at byte : ℕ)
    → map but_record (put (flow_placed (numbered around count) (moved f at) byte) []) ≡ map but_record (put (flow_placed around f byte) [])
unfolding flow_placed flow_event
flow_placed_moved around f count at byte = flow_placed_same around f count at (option_map (item_event around.direction) (item_at (so_far_in f.state byte)))

flow_events_moved : (around : BodyContext) (f : Flow) (count at : ℕ) (bytes : List ℕ)
    → map but_record (flow_events (numbered around count) (moved f at) bytes) ≡ map but_record (flow_events around f bytes)
flow_events_moved around f count at [] = refl
flow_events_moved around f count at (byte ∷ bytes) =
    both_same (flow_events (numbered around count) (flow_after (numbered around count) (moved f at) byte) bytes) (flow_events around (flow_after around f byte) bytes)
    (put (flow_placed (numbered around count) (moved f at) byte) []) (put (flow_placed around f byte) [])
    (ap (λ g. map but_record (flow_events (numbered around count) g bytes)) (flow_after_moved around f count at byte)
    ∙ flow_events_moved around (flow_after around f byte) count (at + 1) bytes)
    (flow_placed_moved around f count at byte)

-- after these bytes the flow stands at this place, where it began at that one
abbrev place_after : ℕ → List ℕ → ℕ
place_after at [] = at
place_after at (byte ∷ bytes) = place_after (at + 1) bytes

place_grows : (at : ℕ) (bytes : List ℕ) → at ≤ place_after at bytes
place_grows at [] = omega arith
place_grows at (byte ∷ bytes) = let later = place_grows (at + 1) bytes in omega arith

flow_after_bytes_moved : (around : BodyContext) (f : Flow) (count at : ℕ) (bytes : List ℕ)
    → flow_after_bytes (numbered around count) (moved f at) bytes ≡ moved (flow_after_bytes around f bytes) (place_after at bytes)
flow_after_bytes_moved around f count at [] = refl
flow_after_bytes_moved around f count at (byte ∷ bytes) =
    ap (λ g. flow_after_bytes (numbered around count) g bytes) (flow_after_moved around f count at byte)
    ∙ flow_after_bytes_moved around (flow_after around f byte) count (at + 1) bytes

flow_with_connected : (around : BodyContext) (f : Flow) (event : Option Event) → (flow_with around f event).connected ≡ f.connected
flow_with_connected around f None = refl
flow_with_connected around f (Some event) = refl

flow_with_at : (around : BodyContext) (f : Flow) (event : Option Event) → (flow_with around f event).at ≡ f.at
flow_with_at around f None = refl
flow_with_at around f (Some event) = refl

flow_connected : (around : BodyContext) (f : Flow) (bytes : List ℕ) → (flow_after_bytes around f bytes).connected ≡ f.connected
unfolding flow_after
flow_connected around f [] = refl
flow_connected around f (byte ∷ bytes) =
    flow_connected around (flow_after around f byte) bytes
    ∙ flow_with_connected around (record f { at = f.at + 1; state = state_after f.state byte }) (flow_event around f byte)

flow_with_before : (around : BodyContext) (f : Flow) (event : Option Event) → (flow_with around f event).before_open ≡ f.before_open
flow_with_before around f None = refl
flow_with_before around f (Some event) = refl

flow_before : (around : BodyContext) (f : Flow) (bytes : List ℕ) → (flow_after_bytes around f bytes).before_open ≡ f.before_open
unfolding flow_after
flow_before around f [] = refl
flow_before around f (byte ∷ bytes) =
    flow_before around (flow_after around f byte) bytes
    ∙ flow_with_before around (record f { at = f.at + 1; state = state_after f.state byte }) (flow_event around f byte)

flow_at : (around : BodyContext) (f : Flow) (bytes : List ℕ) → (flow_after_bytes around f bytes).at ≡ place_after f.at bytes
unfolding flow_after
flow_at around f [] = refl
flow_at around f (byte ∷ bytes) =
    flow_at around (flow_after around f byte) bytes
    ∙ ap (λ n. place_after n bytes) (flow_with_at around (record f { at = f.at + 1; state = state_after f.state byte }) (flow_event around f byte))

-- the byte that names the kind of the records that carry one direction
abbrev direction_byte : Direction → ℕ
direction_byte directions.Sent = 2
direction_byte directions.Recv = 3

direction_named : (direction : Direction) → kind_named (direction_byte direction) ≡ Some (kind_for direction)
direction_named directions.Sent = refl
direction_named directions.Recv = refl

direction_goes : (direction : Direction) → direction_of (Some (kind_for direction)) ≡ Some direction
direction_goes directions.Sent = refl
direction_goes directions.Recv = refl

-- what stays the same within the body of the next record, which has this moment
abbrev around_at : Context → Direction → ℕ → BodyContext
around_at c direction moment = record { direction = direction; server = c.header.server; in_record = record { record_no = c.records + 1; moment = moment } }

-- the direction after the head of a record
abbrev entered : Context → Direction → Flow
entered c direction = record (flow_in c direction) { at = c.at + ahead_of c }

-- what is kept after a whole record, from what the flow keeps after its body
abbrev whole_after : Context → Direction → Flow → Context
whole_after c direction f = flowed c direction true f []

-- A whole record does what its body does in its direction: the bytes of its moment, and its body.
module _ (c : Context) (direction : Direction) (timed body : List ℕ) (h : 8 ≤ c.at) (none : c.part ≡ []) (long : length timed + length_end ≡ ahead_of c) (fits : length body < 2 ^ 32) where
  abbrev spelled : List ℕ
  spelled = to_be_bytes w32 (length body) ++ timed

  abbrev head : List ℕ
  head = direction_byte direction ∷ spelled

  whole : length spelled + 1 ≡ ahead_of c
  whole = let l = length-append (to_be_bytes w32 (length body)) timed in omega arith

  head_long : length head ≡ ahead_of c
  head_long = let l = whole in omega arith

  head_body : body_length head ≡ length body
  unfolding body_length
  head_body = from_be_bytes-to_be_bytes_4 (length body) fits

  head_moment : moment_in (ahead_of c) head ≡ spelled_from 0 timed
  head_moment = let l = head_long in moment_so_far (ahead_of c) head (omega arith)

  abbrev around : BodyContext
  around = around_at c direction (spelled_from 0 timed)

  abbrev after_head : Bool → Context
  after_head empty = headed c direction (direction_byte direction) spelled h none (direction_named direction) whole empty

  head_is : after_bytes c head ≡ after_head (length body == 0)
  head_is = head_after c direction (direction_byte direction) spelled h none (direction_named direction) whole ∙ ap (λ n. after_head (n == 0)) head_body

  head_none : events_by c head ≡ []
  head_none = head_events c direction (direction_byte direction) spelled h none (direction_named direction) whole

  around_same : context_in (after_head false) direction ≡ around
  around_same = ap (around_at c direction) head_moment

  head_goes : direction_of (kind_of head) ≡ Some direction
  unfolding kind_of
  head_goes = ap direction_of (direction_named direction) ∙ direction_goes direction

empty_body : (c : Context) (direction : Direction) → record c { at = c.at + ahead_of c; part = []; records = c.records + 1 } ≡ whole_after c direction (entered c direction)
empty_body c directions.Sent = refl
empty_body c directions.Recv = refl

entered_same : (c : Context) (direction : Direction) (part : List ℕ) → flow_in (record c { at = c.at + ahead_of c; part = part }) direction ≡ entered c direction
entered_same c directions.Sent part = refl
entered_same c directions.Recv part = refl

framed_after : (c : Context) (direction : Direction) (timed body : List ℕ) → 8 ≤ c.at → c.part ≡ [] → length timed + length_end ≡ ahead_of c → length body < 2 ^ 32
    → after_bytes c ((direction_byte direction ∷ to_be_bytes w32 (length body) ++ timed) ++ body) ≡ whole_after c direction (flow_after_bytes (around_at c direction (spelled_from 0 timed)) (entered c direction) body)
framed_after c direction timed [] h none long fits =
    ap (after_bytes c) (append-nil (head c direction timed [] h none long fits))
    ∙ head_is c direction timed [] h none long fits
    ∙ empty_body c direction
framed_after c direction timed (byte ∷ bytes) h none long fits =
    let part = head c direction timed (byte ∷ bytes) h none long fits in
    let l = head_long c direction timed (byte ∷ bytes) h none long fits in
    let size = head_body c direction timed (byte ∷ bytes) h none long fits in
    let some : (length (byte ∷ bytes) == 0) ≡ false = ne_eqb (length (byte ∷ bytes)) 0 (λ e. omega arith) in
    let d = after_head c direction timed (byte ∷ bytes) h none long fits false in
    after_bytes_append c part (byte ∷ bytes)
    ∙ ap (λ k. after_bytes k (byte ∷ bytes)) (head_is c direction timed (byte ∷ bytes) h none long fits ∙ ap (after_head c direction timed (byte ∷ bytes) h none long fits) some)
    ∙ lifted-after_bytes d direction (byte ∷ bytes) (omega arith) (head_goes c direction timed (byte ∷ bytes) h none long fits) (omega arith) (omega arith) (omega arith)
    ∙ ap (λ t. flowed d direction t (flow_after_bytes (context_in d direction) (flow_in d direction) (byte ∷ bytes)) (byte ∷ bytes)) (eq-eqb (length part + length (byte ∷ bytes)) (ahead_of c + body_length part) (omega arith))
    ∙ ap (λ context. whole_after c direction (flow_after_bytes context (flow_in d direction) (byte ∷ bytes))) (around_same c direction timed (byte ∷ bytes) h none long fits)
    ∙ ap (λ f. whole_after c direction (flow_after_bytes (around_at c direction (spelled_from 0 timed)) f (byte ∷ bytes))) (entered_same c direction part)

framed_events : (c : Context) (direction : Direction) (timed body : List ℕ) → 8 ≤ c.at → c.part ≡ [] → length timed + length_end ≡ ahead_of c → length body < 2 ^ 32
    → events_by c ((direction_byte direction ∷ to_be_bytes w32 (length body) ++ timed) ++ body) ≡ flow_events (around_at c direction (spelled_from 0 timed)) (entered c direction) body
framed_events c direction timed [] h none long fits =
    ap (events_by c) (append-nil (head c direction timed [] h none long fits)) ∙ head_none c direction timed [] h none long fits
framed_events c direction timed (byte ∷ bytes) h none long fits =
    let part = head c direction timed (byte ∷ bytes) h none long fits in
    let l = head_long c direction timed (byte ∷ bytes) h none long fits in
    let size = head_body c direction timed (byte ∷ bytes) h none long fits in
    let some : (length (byte ∷ bytes) == 0) ≡ false = ne_eqb (length (byte ∷ bytes)) 0 (λ e. omega arith) in
    let d = after_head c direction timed (byte ∷ bytes) h none long fits false in
    events_append c part (byte ∷ bytes)
    ∙ ap (λ t. events_by (after_bytes c part) (byte ∷ bytes) ++ t) (head_none c direction timed (byte ∷ bytes) h none long fits)
    ∙ append-nil (events_by (after_bytes c part) (byte ∷ bytes))
    ∙ ap (λ k. events_by k (byte ∷ bytes)) (head_is c direction timed (byte ∷ bytes) h none long fits ∙ ap (after_head c direction timed (byte ∷ bytes) h none long fits) some)
    ∙ lifted-events d direction (byte ∷ bytes) (omega arith) (head_goes c direction timed (byte ∷ bytes) h none long fits) (omega arith) (omega arith)
    ∙ ap (λ context. flow_events context (flow_in d direction) (byte ∷ bytes)) (around_same c direction timed (byte ∷ bytes) h none long fits)
    ∙ ap (λ f. flow_events (around_at c direction (spelled_from 0 timed)) f (byte ∷ bytes)) (entered_same c direction part)

-- A second record of the same direction goes on where the first one ended ..
entered_again : (c : Context) (direction : Direction) (g : Flow) → g.connected ≡ c.connected → g.before_open ≡ c.before_open → entered (whole_after c direction g) direction ≡ moved g (g.at + ahead_of c)
entered_again c directions.Sent g e f =
    ap (λ t. record g { at = g.at + ahead_of c; connected = t; before_open = c.before_open }) (sym e) ∙ ap (λ n. record g { at = g.at + ahead_of c; before_open = n }) (sym f)
entered_again c directions.Recv g e f =
    ap (λ t. record g { at = g.at + ahead_of c; connected = t; before_open = c.before_open }) (sym e) ∙ ap (λ n. record g { at = g.at + ahead_of c; before_open = n }) (sym f)

-- .. and leaves what one record of both bodies does, but for the numbers.
after_again : (c : Context) (direction : Direction) (g f : Flow) (at : ℕ) → whole_after (whole_after c direction g) direction (moved f at) ≡ counted (whole_after c direction f) at (c.records + 1 + 1)
after_again c directions.Sent g f at = refl
after_again c directions.Recv g f at = refl

-- one record of both bodies, or two
module _ (c : Context) (direction : Direction) (timed a b : List ℕ) (h : 8 ≤ c.at) (none : c.part ≡ []) (long : length timed + length_end ≡ ahead_of c) (fits : length (a ++ b) < 2 ^ 32) where
  both_long : length (a ++ b) ≡ length a + length b
  both_long = length-append a b

  first_fits : length a < 2 ^ 32
  first_fits = let l = both_long in omega arith

  second_fits : length b < 2 ^ 32
  second_fits = let l = both_long in omega arith

  abbrev within : BodyContext
  within = around_at c direction (spelled_from 0 timed)

  -- a record of this body
  abbrev record_of : List ℕ → List ℕ
  record_of body = (direction_byte direction ∷ to_be_bytes w32 (length body) ++ timed) ++ body

  abbrev amid : Flow
  amid = flow_after_bytes within (entered c direction) a

  abbrev ended : Flow
  ended = flow_after_bytes within amid b

  amid_place : (c.at + ahead_of c) ≤ amid.at
  amid_place = let is : amid.at ≡ place_after (c.at + ahead_of c) a = flow_at within (entered c direction) a in let grows = place_grows (c.at + ahead_of c) a in omega arith

  ended_place : (c.at + ahead_of c) ≤ ended.at
  ended_place = let is : ended.at ≡ place_after amid.at b = flow_at within amid b in let grows = place_grows amid.at b in let start = amid_place in omega arith

  abbrev end_place : ℕ
  end_place = place_after (amid.at + ahead_of c) b

  entered_amid : entered (whole_after c direction amid) direction ≡ moved amid (amid.at + ahead_of c)
  entered_amid = entered_again c direction amid (flow_connected within (entered c direction) a) (flow_before within (entered c direction) a)

  one_after_bytes : after_bytes c (record_of (a ++ b)) ≡ whole_after c direction ended
  one_after_bytes = framed_after c direction timed (a ++ b) h none long fits ∙ ap (whole_after c direction) (flow_after_bytes-append within (entered c direction) a b)

  first_after_bytes : after_bytes c (record_of a) ≡ whole_after c direction amid
  first_after_bytes = framed_after c direction timed a h none long first_fits

  amid_at : 8 ≤ (whole_after c direction amid).at
  amid_at = let start = amid_place in omega arith

  second_after_bytes : after_bytes (whole_after c direction amid) (record_of b) ≡ counted (whole_after c direction ended) end_place (c.records + 1 + 1)
  second_after_bytes =
      framed_after (whole_after c direction amid) direction timed b amid_at refl long second_fits
      ∙ ap (λ f. whole_after (whole_after c direction amid) direction (flow_after_bytes (numbered within (c.records + 1 + 1)) f b)) entered_amid
      ∙ ap (whole_after (whole_after c direction amid) direction) (flow_after_bytes_moved within amid (c.records + 1 + 1) (amid.at + ahead_of c) b)
      ∙ after_again c direction amid ended end_place

  second_events : map but_record (events_by (whole_after c direction amid) (record_of b)) ≡ map but_record (flow_events within amid b)
  second_events =
      ap (map but_record) (framed_events (whole_after c direction amid) direction timed b amid_at refl long second_fits
      ∙ ap (λ f. flow_events (numbered within (c.records + 1 + 1)) f b) entered_amid)
      ∙ flow_events_moved within amid (c.records + 1 + 1) (amid.at + ahead_of c) b

  one_completed : events_by c (record_of (a ++ b)) ≡ flow_events within amid b ++ flow_events within (entered c direction) a
  one_completed = framed_events c direction timed (a ++ b) h none long fits ∙ events-append within (entered c direction) a b

  two_events : (later : List ℕ) → events_by c (record_of a ++ (record_of b ++ later))
      ≡ (events_by (counted (whole_after c direction ended) end_place (c.records + 1 + 1)) later ++ events_by (whole_after c direction amid) (record_of b)) ++ flow_events within (entered c direction) a
  two_events later =
      events_append c (record_of a) (record_of b ++ later)
      ∙ ap (λ d. events_by d (record_of b ++ later) ++ events_by c (record_of a)) first_after_bytes
      ∙ ap (λ t. t ++ events_by c (record_of a)) (events_append (whole_after c direction amid) (record_of b) later
      ∙ ap (λ d. events_by d later ++ events_by (whole_after c direction amid) (record_of b)) second_after_bytes)
      ∙ ap (λ t. (events_by (counted (whole_after c direction ended) end_place (c.records + 1 + 1)) later ++ events_by (whole_after c direction amid) (record_of b)) ++ t)
      (framed_events c direction timed a h none long first_fits)

  whole_events : (later : List ℕ) → events_by c (record_of (a ++ b) ++ later)
      ≡ (events_by (whole_after c direction ended) later ++ flow_events within amid b) ++ flow_events within (entered c direction) a
  whole_events later =
      events_append c (record_of (a ++ b)) later
      ∙ ap (λ d. events_by d later ++ events_by c (record_of (a ++ b))) one_after_bytes
      ∙ ap (λ t. events_by (whole_after c direction ended) later ++ t) one_completed
      ∙ sym (append_assoc (events_by (whole_after c direction ended) later) (flow_events within amid b) (flow_events within (entered c direction) a))

  -- What is received of both is the same but for the numbers of the records.
  split_completed : (later : List ℕ) → map but_record (events_by c (record_of (a ++ b) ++ later))
      ≡ map but_record (events_by c (record_of a ++ (record_of b ++ later)))
  split_completed later =
      let far = ended_place in
      let start = amid_place in
      let grows = place_grows (amid.at + ahead_of c) b in
      ap (map but_record) (whole_events later)
      ∙ both_same (events_by (whole_after c direction ended) later ++ flow_events within amid b)
      (events_by (counted (whole_after c direction ended) end_place (c.records + 1 + 1)) later ++ events_by (whole_after c direction amid) (record_of b))
      (flow_events within (entered c direction) a) (flow_events within (entered c direction) a)
      (both_same (events_by (whole_after c direction ended) later) (events_by (counted (whole_after c direction ended) end_place (c.records + 1 + 1)) later)
      (flow_events within amid b) (events_by (whole_after c direction amid) (record_of b))
      (sym (events_counted (whole_after c direction ended) end_place (c.records + 1 + 1) later (omega arith) (omega arith)))
      (sym second_events))
      refl
      ∙ ap (map but_record) (sym (two_events later))

-- the bytes of a moment, in a log of this version, are as many as its records have
pub timed_long : (version moment : ℕ) → length (moment_bytes version moment) + length_end ≡ head_length version
unfolding moment_bytes head_length
timed_long version moment = by (version == 2)
  where
    by : (t : Bool) → length (if t then to_be_bytes w64 moment else []) + length_end ≡ (if t then 13 else length_end)
    by true = omega arith
    by false = omega arith

-- Splitting such a record, after a log of whole records, changes the events in the numbers of their records alone.
module _ (direction : Direction) (before later a b : List ℕ) (moment : ℕ) (past_header : 8 ≤ length before) (settled : (records before).rest ≡ []) (short : length (a ++ b) < 2 ^ 32) where
  abbrev recorded : List ℕ → List ℕ
  recorded body = framed (header_by before).version moment (direction_byte direction) body

  abbrev timed_by : List ℕ
  timed_by = moment_bytes (header_by before).version moment

  timed_there : length timed_by + length_end ≡ ahead_of (context before)
  timed_there = timed_long (header_by before).version moment ∙ ap (λ (t : Header). head_length t.version) (sym (header_context before))

  split_after : map but_record (events (before ++ (recorded (a ++ b) ++ later))) ≡ map but_record (events (before ++ (recorded a ++ (recorded b ++ later))))
  split_after =
      let at : (context before).at ≡ length before = at_context before in
      ap (map but_record) (events_run before (recorded (a ++ b) ++ later))
      ∙ both_same (events_by (context before) (recorded (a ++ b) ++ later)) (events_by (context before) (recorded a ++ (recorded b ++ later)))
      (events before) (events before)
      (split_completed (context before) direction timed_by a b (omega arith) (part_context before ∙ settled) timed_there short later)
      refl
      ∙ ap (map but_record) (sym (events_run before (recorded a ++ (recorded b ++ later))))

  split_events : map but_record (events (before ++ recorded (a ++ b) ++ later)) ≡ map but_record (events (before ++ recorded a ++ recorded b ++ later))
  split_events =
      ap (λ log. map but_record (events log)) (append_assoc before (recorded (a ++ b)) later)
      ∙ split_after
      ∙ ap (λ log. map but_record (events log)) (sym (append_assoc (before ++ recorded a) (recorded b) later
      ∙ append_assoc before (recorded a) (recorded b ++ later)))

pub split_sent : (before later a b : List ℕ) (moment : ℕ) → 8 ≤ length before → (records before).rest ≡ [] → length (a ++ b) < 2 ^ 32
    → map but_record (events (before ++ record_bytes (header_by before).version moment (sent_record (a ++ b)) ++ later))
    ≡ map but_record (events (before ++ record_bytes (header_by before).version moment (sent_record a) ++ record_bytes (header_by before).version moment (sent_record b) ++ later))
split_sent before later a b moment past_header settled short = split_events directions.Sent before later a b moment past_header settled short

pub split_received : (before later a b : List ℕ) (moment : ℕ) → 8 ≤ length before → (records before).rest ≡ [] → length (a ++ b) < 2 ^ 32
    → map but_record (events (before ++ record_bytes (header_by before).version moment (received_record (a ++ b)) ++ later))
    ≡ map but_record (events (before ++ record_bytes (header_by before).version moment (received_record a) ++ record_bytes (header_by before).version moment (received_record b) ++ later))
split_received before later a b moment past_header settled short = split_events directions.Recv before later a b moment past_header settled short

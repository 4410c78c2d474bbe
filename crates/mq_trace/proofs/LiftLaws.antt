-- Within the body of a record that carries packets, the log's bytes do what those of its direction do.
use Rattle.std.proofs.Common.{◌≡◌, ℕ, ◌+◌, ◌<◌, ◌≤◌, Bool, true, false, cond, ◌&&◌, List, [], ◌∷◌, ◌++◌, length, Option, Some, None, refl, sym, ◌∙◌, ap, arith, append_assoc, length-append}
use Rattle.std.specs.Prelude.{◌==◌, ◌||◌, not, if◌then◌else◌, is_some, is_none, nat_lt, nat_le, option_map}
use Rattle.std.proofs.lemmas.List.{append-nil}
use Rattle.std.proofs.lemmas.Bool.{le-ltb, lt-ltb, le-leb, lt-leb, eqb-true, eqb-false, ne_eqb}
use Rattle.std.specs.Option.{option_or}
use Rattle.mq_packet.specs.Stream.{fixed_header_of, frame_size}
use Rattle.mq_log.specs.declared.kind.RecordKind.{RecordKind}
use Rattle.mq_log.specs.declared.kind.RecordKind.TheVariants as kinds
use Rattle.mq_log.specs.declared.kind.Direction.{Direction}
use Rattle.mq_log.specs.declared.kind.Direction.TheVariants as directions
use Rattle.mq_log.specs.declared.refusal.Refusal.{Refusal}
use Rattle.mq_log.specs.declared.refusal.Refusal.TheVariants as refusals
use Rattle.mq_log.specs.Framing.{kind_of, body_length, record_size, direction_of, opens, length_end, moment_in}
use Rattle.mq_log.specs.Events.{UnfinishedPackets, Item, Event, item_at, event_by, event_in, read_frame}
use Rattle.mq_log.specs.Refusals.{first_that_applies, allows_length, is_open_kind, needs_connection, is_release_kind, is_too_large, is_other_version, record_refusal, header_refusal}
use Rattle.mq_log.specs.Context.{StreamState, Context, ahead_of, unfinished_of, state_for, so_far_in, so_far_by, so_far_for, situated, state_after, state_by, state_then, with_completed, after_header, after_part, after, put, placed_with, placed_for, refusal_for, event_for}
use Rattle.mq_trace.specs.Runs.{after_bytes, refused_in, events_by}
use Rattle.mq_log.specs.Flows.{BodyContext, Flow, item_event, flows_too_early, flow_event, flow_refusal, flow_placed, flow_placed_with, flow_with, flow_after, flow_after_bytes, flow_refused, flow_events, context_in, flow_in, state_after_body, flowed}
use Rattle.mq_log.proofs.Exports.{head_least}
use Rattle.mq_trace.proofs.MomentLaws.{moment_stays}

-- A record that carries packets opens no connection, and its events are what its packets are.
pub opens_none : (kind : Option RecordKind) (direction : Direction) → direction_of kind ≡ Some direction → opens kind ≡ false
opens_none None direction e = refl
opens_none (Some kinds.Open) direction e = absurd (cc)
opens_none (Some kinds.Sent) direction e = refl
opens_none (Some kinds.Recv) direction e = refl
opens_none (Some kinds.Close) direction e = refl
opens_none (Some kinds.Rest) direction e = refl
opens_none (Some kinds.Release) direction e = refl

event_by_item : (unfinished : UnfinishedPackets) (ahead : ℕ) (kind : Option RecordKind) (direction : Direction) (part so_far : List ℕ) → direction_of kind ≡ Some direction → event_by unfinished ahead kind part so_far ≡ option_map (item_event direction) (item_at so_far)
event_by_item unfinished ahead None direction part so_far e = absurd (cc)
event_by_item unfinished ahead (Some kinds.Open) direction part so_far e = absurd (cc)
event_by_item unfinished ahead (Some kinds.Sent) directions.Sent part so_far e = refl
event_by_item unfinished ahead (Some kinds.Sent) directions.Recv part so_far e = absurd (cc)
event_by_item unfinished ahead (Some kinds.Recv) directions.Sent part so_far e = absurd (cc)
event_by_item unfinished ahead (Some kinds.Recv) directions.Recv part so_far e = refl
event_by_item unfinished ahead (Some kinds.Close) direction part so_far e = absurd (cc)
event_by_item unfinished ahead (Some kinds.Rest) direction part so_far e = absurd (cc)
event_by_item unfinished ahead (Some kinds.Release) direction part so_far e = absurd (cc)

-- the head of a record stays, whatever follows
kind_stays : (part more : List ℕ) → length_end ≤ length part → kind_of (part ++ more) ≡ kind_of part
unfolding kind_of
kind_stays [] more h = absurd (omega arith)
kind_stays (k ∷ part) more h = refl

body_stays : (part more : List ℕ) → length_end ≤ length part → body_length (part ++ more) ≡ body_length part
unfolding body_length
body_stays [] b h = absurd (omega arith)
body_stays (k ∷ []) b h = absurd (omega arith)
body_stays (k ∷ p ∷ []) b h = absurd (omega arith)
body_stays (k ∷ p ∷ q ∷ []) b h = absurd (omega arith)
body_stays (k ∷ p ∷ q ∷ r ∷ []) b h = absurd (omega arith)
body_stays (k ∷ p ∷ q ∷ r ∷ s ∷ part) b h = refl

-- the refusal of a byte of a record, with what follows from how far the record is, and the event
abbrev lines : ℕ → Context → List ℕ → List ℕ → Bool → Bool → Bool → Option Event → Option Refusal
lines limit c part so_far first whole early event = first_that_applies (
    (first && is_none (kind_of part), refusals.Kind c.at)
    ∷ (whole && not (allows_length c.header.version (kind_of part) (body_length part)), refusals.Length c.at)
    ∷ (first && (is_open_kind (kind_of part) && c.connected), refusals.Nested c.at)
    ∷ (first && (needs_connection (kind_of part) && not c.connected), refusals.NotOpen c.at)
    ∷ (first && (is_release_kind (kind_of part) && not c.header.releases), refusals.ReleaseUnrecorded c.at)
    ∷ (is_too_large limit so_far (fixed_header_of so_far), refusals.TooLarge c.at)
    ∷ (is_some (frame_size so_far) && is_other_version (read_frame so_far), refusals.OtherVersion c.at)
    ∷ (early, refusals.TooManyEarly c.at)
    ∷ ((first && nat_lt 4294967295 (c.records + 1)) || (is_some event && nat_le 4294967295 c.events), refusals.TooLong c.at)
    ∷ [])

-- A record is whole where all of its body is there.
whole_by : (ahead : ℕ) (part : List ℕ) → ahead ≤ length part → is_some (record_size ahead part) ≡ nat_le (ahead + body_length part) (length part)
unfolding record_size
whole_by ahead part there = ap (λ b. is_some (if b then None else (if nat_le (ahead + body_length part) (length part) then Some (ahead + body_length part) else None))) (le-ltb (length part) ahead there) ∙ some_if (nat_le (ahead + body_length part) (length part))
  where
    some_if : (b : Bool) → is_some (if b then Some (ahead + body_length part) else None) ≡ b
    some_if true = refl
    some_if false = refl

just_whole : (n size : ℕ) → n < size → nat_le size (n + 1) ≡ (n + 1 == size)
just_whole n size less =
    elim (n + 1 == size) as (λ b. (n + 1 == size) ≡ b → nat_le size (n + 1) ≡ b) [
      | true ↦ λ e. (let same : n + 1 ≡ size = eqb-true (n + 1) size e in le-leb size (n + 1) (omega arith))
      | false ↦ λ e. lt-leb size (n + 1) (apart (eqb-false (n + 1) size e))
    ] refl
  where
    apart : (n + 1 ≡ size → ⊥) → n + 1 < size
    apart other = omega (arith, other)

state_same : (each direction : Direction) (c : Context) (byte : ℕ) → state_by each (Some direction) (state_for c each) byte ≡ state_after_body each direction (state_after (state_for c direction) byte) (state_for c each)
state_same directions.Sent directions.Sent c byte = refl
state_same directions.Sent directions.Recv c byte = refl
state_same directions.Recv directions.Sent c byte = refl
state_same directions.Recv directions.Recv c byte = refl

-- what is kept after a byte of a record, from what it makes of each part
abbrev kept : Context → List ℕ → Bool → StreamState → StreamState → Option Event → Context
kept c part whole sent recv event = with_completed (record c {
  at = c.at + 1;
  part = cond whole [] part;
  records = cond whole (c.records + 1) c.records;
  sent = sent;
  recv = recv;
}) event

kept_flowed : (c : Context) (direction : Direction) (byte : ℕ) (whole : Bool) (item : Option Item)
    → kept c (c.part ++ byte ∷ []) whole (state_after_body directions.Sent direction (state_after (state_for c direction) byte) c.sent) (state_after_body directions.Recv direction (state_after (state_for c direction) byte) c.recv) (option_map (item_event direction) item)
    ≡ flowed c direction whole (flow_with (context_in c direction) (record (flow_in c direction) { at = c.at + 1; state = state_after (state_for c direction) byte }) (option_map (item_event direction) item)) (byte ∷ [])
kept_flowed c direction byte whole None = refl
kept_flowed c directions.Sent byte whole (Some item) = refl
kept_flowed c directions.Recv byte whole (Some item) = refl

-- a head has a whole length
length_there : (c : Context) → ahead_of c ≤ length c.part → length_end ≤ length c.part
length_there c there = let least = head_least c.header.version in omega arith

-- one byte of a body
module _ (c : Context) (direction : Direction) (byte : ℕ) (past_header : 8 ≤ c.at) (goes : direction_of (kind_of c.part) ≡ Some direction) (there : ahead_of c ≤ length c.part) where
  abbrev part : List ℕ
  part = c.part ++ byte ∷ []

  abbrev context : BodyContext
  context = context_in c direction

  abbrev flow : Flow
  flow = flow_in c direction

  longer : length part ≡ length c.part + 1
  longer = length-append c.part (byte ∷ [])

  goes_on : direction_of (kind_of part) ≡ Some direction
  goes_on = ap direction_of (kind_stays c.part (byte ∷ []) (length_there c there)) ∙ goes

  in_body : nat_lt (ahead_of c) (length part) ≡ true
  in_body = let l = longer in lt-ltb (ahead_of c) (length part) (omega arith)

  not_first : (length part == 1) ≡ false
  not_first = let l = longer in let long = length_there c there in ne_eqb (length part) 1 (λ same. (omega arith))

  not_head : (length part == length_end) ≡ false
  not_head = let l = longer in let long = length_there c there in ne_eqb (length part) length_end (λ same. (omega arith))

  so_far_is : so_far_for c byte ≡ so_far_in (state_for c direction) byte
  unfolding so_far_for
  so_far_is = ap (λ b. cond b (so_far_by (direction_of (kind_of part)) c byte) []) in_body ∙ ap (λ w. so_far_by w c byte) goes_on

  event_is : event_for c byte ≡ flow_event context flow byte
  unfolding event_for event_in flow_event
  event_is =
      ap (λ b. if b then None else event_by (unfinished_of c) (ahead_of c) (kind_of part) part (so_far_for c byte)) (le-ltb c.at 8 past_header)
      ∙ event_by_item (unfinished_of c) (ahead_of c) (kind_of part) direction part (so_far_for c byte) goes_on
      ∙ ap (λ t. option_map (item_event direction) (item_at t)) so_far_is

  event_within : event_in (unfinished_of c) (ahead_of c) part (so_far_for c byte) ≡ flow_event context flow byte
  unfolding event_in flow_event
  event_within = event_by_item (unfinished_of c) (ahead_of c) (kind_of part) direction part (so_far_for c byte) goes_on ∙ ap (λ t. option_map (item_event direction) (item_at t)) so_far_is

  by_lines : (limit : ℕ) → record_refusal limit (situated c byte)
      ≡ lines limit c part (so_far_for c byte) (length part == 1) (length part == length_end) (flows_too_early context flow (event_in (unfinished_of c) (ahead_of c) part (so_far_for c byte))) (event_in (unfinished_of c) (ahead_of c) part (so_far_for c byte))
  unfolding record_refusal situated
  by_lines limit = refl

  by_flow : (limit : ℕ) → lines limit c part (so_far_in (state_for c direction) byte) false false (flows_too_early context flow (flow_event context flow byte)) (flow_event context flow byte) ≡ flow_refusal limit context flow byte
  unfolding flow_refusal
  by_flow limit = refl

  -- The byte is refused as in its flow.
  refusal_lifted : (limit : ℕ) → refusal_for limit c byte ≡ flow_refusal limit context flow byte
  unfolding refusal_for
  refusal_lifted limit =
      ap (λ b. if b then header_refusal c.at byte else record_refusal limit (situated c byte)) (le-ltb c.at 8 past_header)
      ∙ by_lines limit
      ∙ ap (λ b. lines limit c part (so_far_for c byte) b (length part == length_end) (flows_too_early context flow (event_in (unfinished_of c) (ahead_of c) part (so_far_for c byte))) (event_in (unfinished_of c) (ahead_of c) part (so_far_for c byte))) not_first
      ∙ ap (λ b. lines limit c part (so_far_for c byte) false b (flows_too_early context flow (event_in (unfinished_of c) (ahead_of c) part (so_far_for c byte))) (event_in (unfinished_of c) (ahead_of c) part (so_far_for c byte))) not_head
      ∙ ap (λ e. lines limit c part (so_far_for c byte) false false (flows_too_early context flow e) e) event_within
      ∙ ap (λ t. lines limit c part t false false (flows_too_early context flow (flow_event context flow byte)) (flow_event context flow byte)) so_far_is
      ∙ by_flow limit

  place_same : (event : Option Event) → placed_with c (moment_in (ahead_of c) c.part) event ≡ flow_placed_with context flow event
  place_same None = refl
  place_same (Some event) = refl

  -- So is its event.
  placed_lifted : placed_for c byte ≡ flow_placed context flow byte
  unfolding placed_for flow_placed
  placed_lifted =
      ap (λ m. placed_with c m (event_for c byte)) (moment_stays (ahead_of c) c.part (byte ∷ []) there)
      ∙ ap (placed_with c (moment_in (ahead_of c) c.part)) event_is
      ∙ place_same (flow_event context flow byte)

  state_is : (each : Direction) → state_then (ahead_of c) each (state_for c each) part byte ≡ state_after_body each direction (state_after (state_for c direction) byte) (state_for c each)
  unfolding state_then
  state_is each =
      ap (λ b. cond b (record { unfinished = []; lost = false }) (cond (nat_lt (ahead_of c) (length part)) (state_by each (direction_of (kind_of part)) (state_for c each) byte) (state_for c each))) (opens_none (kind_of part) direction goes_on)
      ∙ ap (λ b. cond b (state_by each (direction_of (kind_of part)) (state_for c each) byte) (state_for c each)) in_body
      ∙ ap (λ w. state_by each w (state_for c each) byte) goes_on
      ∙ state_same each direction c byte

  whole_is : length c.part < ahead_of c + body_length c.part → is_some (record_size (ahead_of c) part) ≡ (length c.part + 1 == ahead_of c + body_length c.part)
  whole_is less =
      let l = longer in
      whole_by (ahead_of c) part (omega arith)
      ∙ ap (λ n. nat_le (ahead_of c + n) (length part)) (body_stays c.part (byte ∷ []) (length_there c there))
      ∙ ap (nat_le (ahead_of c + body_length c.part)) l
      ∙ just_whole (length c.part) (ahead_of c + body_length c.part) less

  flow_after_is : flow_after context flow byte ≡ flow_with context (record flow { at = c.at + 1; state = state_after (state_for c direction) byte }) (option_map (item_event direction) (item_at (so_far_in (state_for c direction) byte)))
  unfolding flow_after flow_event
  flow_after_is = refl

  flow_event_is : flow_event context flow byte ≡ option_map (item_event direction) (item_at (so_far_in (state_for c direction) byte))
  unfolding flow_event
  flow_event_is = refl

  -- What is kept after the byte is what the flow keeps.
  after_lifted : length c.part < ahead_of c + body_length c.part → after c byte ≡ flowed c direction (length c.part + 1 == ahead_of c + body_length c.part) (flow_after context flow byte) (byte ∷ [])
  unfolding after
  after_lifted less =
      ap (λ b. if b then after_header c byte else with_completed (after_part c part byte) (event_for c byte)) (le-ltb c.at 8 past_header)
      ∙ ap (λ h. kept c part (is_some (record_size (ahead_of c) part)) h (state_then (ahead_of c) directions.Recv c.recv part byte) (event_for c byte)) (state_is directions.Sent)
      ∙ ap (λ h. kept c part (is_some (record_size (ahead_of c) part)) (state_after_body directions.Sent direction (state_after (state_for c direction) byte) c.sent) h (event_for c byte)) (state_is directions.Recv)
      ∙ ap (λ b. kept c part b (state_after_body directions.Sent direction (state_after (state_for c direction) byte) c.sent) (state_after_body directions.Recv direction (state_after (state_for c direction) byte) c.recv) (event_for c byte)) (whole_is less)
      ∙ ap (kept c part (length c.part + 1 == ahead_of c + body_length c.part) (state_after_body directions.Sent direction (state_after (state_for c direction) byte) c.sent) (state_after_body directions.Recv direction (state_after (state_for c direction) byte) c.recv)) (event_is ∙ flow_event_is)
      ∙ kept_flowed c direction byte (length c.part + 1 == ahead_of c + body_length c.part) (item_at (so_far_in (state_for c direction) byte))
      ∙ ap (λ g. flowed c direction (length c.part + 1 == ahead_of c + body_length c.part) g (byte ∷ [])) (sym flow_after_is)

-- The byte is refused as in its flow ..
pub lifted-refusal : (limit : ℕ) (c : Context) (direction : Direction) (byte : ℕ) → 8 ≤ c.at → direction_of (kind_of c.part) ≡ Some direction → ahead_of c ≤ length c.part
    → refusal_for limit c byte ≡ flow_refusal limit (context_in c direction) (flow_in c direction) byte
lifted-refusal limit c direction byte past_header goes there = refusal_lifted c direction byte past_header goes there limit

-- .. completes what it does there ..
pub lifted-placed : (c : Context) (direction : Direction) (byte : ℕ) → 8 ≤ c.at → direction_of (kind_of c.part) ≡ Some direction → ahead_of c ≤ length c.part
    → placed_for c byte ≡ flow_placed (context_in c direction) (flow_in c direction) byte
lifted-placed c direction byte past_header goes there = placed_lifted c direction byte past_header goes there

-- .. and leaves what it leaves there.
pub lifted-after : (c : Context) (direction : Direction) (byte : ℕ) → 8 ≤ c.at → direction_of (kind_of c.part) ≡ Some direction → ahead_of c ≤ length c.part → length c.part < ahead_of c + body_length c.part
    → after c byte ≡ flowed c direction (length c.part + 1 == ahead_of c + body_length c.part) (flow_after (context_in c direction) (flow_in c direction) byte) (byte ∷ [])
lifted-after c direction byte past_header goes there less = after_lifted c direction byte past_header goes there less

-- The packet so far of a byte of a body is its direction's.
pub lifted-so_far : (c : Context) (direction : Direction) (byte : ℕ) → direction_of (kind_of c.part) ≡ Some direction → ahead_of c ≤ length c.part → so_far_for c byte ≡ so_far_in (state_for c direction) byte
unfolding so_far_for
lifted-so_far c direction byte goes there =
    let longer : length (c.part ++ byte ∷ []) ≡ length c.part + 1 = length-append c.part (byte ∷ []) in
    ap (λ b. cond b (so_far_by (direction_of (kind_of (c.part ++ byte ∷ []))) c byte) []) (lt-ltb (ahead_of c) (length (c.part ++ byte ∷ [])) (omega arith))
    ∙ ap (λ w. so_far_by w c byte) (ap direction_of (kind_stays c.part (byte ∷ []) (length_there c there)) ∙ goes)

-- the direction that a flow keeps, in what is kept of the log
pub state_flowed : (c : Context) (direction : Direction) (f : Flow) (bytes : List ℕ) → state_for (flowed c direction false f bytes) direction ≡ f.state
state_flowed c directions.Sent f bytes = refl
state_flowed c directions.Recv f bytes = refl

flow_with_at : (context : BodyContext) (f : Flow) (event : Option Event) → (flow_with context f event).at ≡ f.at
flow_with_at _ f None = refl
flow_with_at _ f (Some event) = refl

flow_with_connected : (context : BodyContext) (f : Flow) (event : Option Event) → (flow_with context f event).connected ≡ f.connected
flow_with_connected _ f None = refl
flow_with_connected _ f (Some event) = refl

flow_with_before : (context : BodyContext) (f : Flow) (event : Option Event) → (flow_with context f event).before_open ≡ f.before_open
flow_with_before _ f None = refl
flow_with_before _ f (Some event) = refl

after_at : (context : BodyContext) (f : Flow) (byte : ℕ) → (flow_after context f byte).at ≡ f.at + 1
unfolding flow_after
after_at context f byte = flow_with_at context (record f { at = f.at + 1; state = state_after f.state byte }) (flow_event context f byte)

after_connected : (context : BodyContext) (f : Flow) (byte : ℕ) → (flow_after context f byte).connected ≡ f.connected
unfolding flow_after
after_connected context f byte = flow_with_connected context (record f { at = f.at + 1; state = state_after f.state byte }) (flow_event context f byte)

after_before : (context : BodyContext) (f : Flow) (byte : ℕ) → (flow_after context f byte).before_open ≡ f.before_open
unfolding flow_after
after_before context f byte = flow_with_before context (record f { at = f.at + 1; state = state_after f.state byte }) (flow_event context f byte)

-- A flow is found again in what is kept after it.
flow_again : (c : Context) (direction : Direction) (g : Flow) (bytes : List ℕ) → g.connected ≡ c.connected → g.before_open ≡ c.before_open → flow_in (flowed c direction false g bytes) direction ≡ g
flow_again c directions.Sent g bytes e f = ap (λ b. record g { connected = b; before_open = c.before_open }) (sym e) ∙ ap (λ n. record g { before_open = n }) (sym f)
flow_again c directions.Recv g bytes e f = ap (λ b. record g { connected = b; before_open = c.before_open }) (sym e) ∙ ap (λ n. record g { before_open = n }) (sym f)

flowed_twice : (c : Context) (direction : Direction) (whole : Bool) (g h : Flow) (bytes more : List ℕ) → flowed (flowed c direction false g bytes) direction whole h more ≡ flowed c direction whole h (bytes ++ more)
flowed_twice c directions.Sent whole g h bytes more = ap (λ t. record (flowed c directions.Sent whole h (bytes ++ more)) { part = cond whole [] t }) (append_assoc c.part bytes more)
flowed_twice c directions.Recv whole g h bytes more = ap (λ t. record (flowed c directions.Recv whole h (bytes ++ more)) { part = cond whole [] t }) (append_assoc c.part bytes more)

flowed_none : (c : Context) (direction : Direction) → flowed c direction false (flow_in c direction) [] ≡ c
flowed_none c directions.Sent = ap (λ t. record c { part = t }) (append-nil c.part)
flowed_none c directions.Recv = ap (λ t. record c { part = t }) (append-nil c.part)

-- a byte of a body after which more of the body stands
module _ (c : Context) (direction : Direction) (byte next : ℕ) (bytes : List ℕ) (past_header : 8 ≤ c.at) (goes : direction_of (kind_of c.part) ≡ Some direction) (there : ahead_of c ≤ length c.part)
    (fits : length c.part + length (byte ∷ next ∷ bytes) ≤ ahead_of c + body_length c.part) where
  abbrev then_flow : Flow
  then_flow = flow_after (context_in c direction) (flow_in c direction) byte

  abbrev then_kept : Context
  then_kept = flowed c direction false then_flow (byte ∷ [])

  then_longer : length (c.part ++ byte ∷ []) ≡ length c.part + 1
  then_longer = length-append c.part (byte ∷ [])

  then_is : after c byte ≡ then_kept
  then_is =
      lifted-after c direction byte past_header goes there (omega arith)
      ∙ ap (λ b. flowed c direction b then_flow (byte ∷ [])) (ne_eqb (length c.part + 1) (ahead_of c + body_length c.part) (λ same. (omega arith)))

  then_at : 8 ≤ then_kept.at
  then_at = let same : then_flow.at ≡ c.at + 1 = after_at (context_in c direction) (flow_in c direction) byte in omega arith

  then_goes : direction_of (kind_of then_kept.part) ≡ Some direction
  then_goes = ap direction_of (kind_stays c.part (byte ∷ []) (length_there c there)) ∙ goes

  then_there : ahead_of c ≤ length then_kept.part
  then_there = let l = then_longer in omega arith

  then_body : body_length then_kept.part ≡ body_length c.part
  then_body = body_stays c.part (byte ∷ []) (length_there c there)

  then_fits : length then_kept.part + length (next ∷ bytes) ≤ ahead_of c + body_length then_kept.part
  then_fits = let l = then_longer in let b = then_body in omega arith

  then_less : length then_kept.part < ahead_of c + body_length then_kept.part
  then_less = let l = then_longer in let b = then_body in omega arith

  then_flows : flow_in then_kept direction ≡ then_flow
  then_flows = flow_again c direction then_flow (byte ∷ []) (after_connected (context_in c direction) (flow_in c direction) byte) (after_before (context_in c direction) (flow_in c direction) byte)

  -- it is in the same record
  then_context : context_in then_kept direction ≡ context_in c direction
  then_context = ap (λ m. record (context_in c direction) { in_record = record { record_no = c.records + 1; moment = m } }) (moment_stays (ahead_of c) c.part (byte ∷ []) there)

  then_whole : (length then_kept.part + length (next ∷ bytes) == ahead_of c + body_length then_kept.part) ≡ (length c.part + length (byte ∷ next ∷ bytes) == ahead_of c + body_length c.part)
  then_whole =
      let l = then_longer in
      let counted : length (c.part ++ byte ∷ []) + length (next ∷ bytes) ≡ length c.part + length (byte ∷ next ∷ bytes) = omega arith in
      ap (λ n. n == ahead_of c + body_length then_kept.part) counted ∙ ap (λ n. length c.part + length (byte ∷ next ∷ bytes) == ahead_of c + n) then_body

-- Bytes of one body are refused as in their flow ..
pub lifted-refused : (limit : ℕ) (c : Context) (direction : Direction) (bytes : List ℕ) → 8 ≤ c.at → direction_of (kind_of c.part) ≡ Some direction → ahead_of c ≤ length c.part
    → length c.part + length bytes ≤ ahead_of c + body_length c.part → refused_in limit c bytes ≡ flow_refused limit (context_in c direction) (flow_in c direction) bytes
lifted-refused limit c direction [] past_header goes there fits = refl
lifted-refused limit c direction (byte ∷ []) past_header goes there fits = ap (λ o. option_or o None) (lifted-refusal limit c direction byte past_header goes there)
lifted-refused limit c direction (byte ∷ next ∷ bytes) past_header goes there fits =
    ap (λ o. option_or o (refused_in limit (after c byte) (next ∷ bytes))) (lifted-refusal limit c direction byte past_header goes there)
    ∙ ap (option_or (flow_refusal limit (context_in c direction) (flow_in c direction) byte))
    (ap (λ k. refused_in limit k (next ∷ bytes)) (then_is c direction byte next bytes past_header goes there fits)
    ∙ lifted-refused limit (then_kept c direction byte next bytes past_header goes there fits) direction (next ∷ bytes)
    (then_at c direction byte next bytes past_header goes there fits) (then_goes c direction byte next bytes past_header goes there fits)
    (then_there c direction byte next bytes past_header goes there fits) (then_fits c direction byte next bytes past_header goes there fits)
    ∙ ap (λ context. flow_refused limit context (flow_in (then_kept c direction byte next bytes past_header goes there fits) direction) (next ∷ bytes)) (then_context c direction byte next bytes past_header goes there fits)
    ∙ ap (λ g. flow_refused limit (context_in c direction) g (next ∷ bytes)) (then_flows c direction byte next bytes past_header goes there fits))

-- .. complete what they do there ..
pub lifted-events : (c : Context) (direction : Direction) (bytes : List ℕ) → 8 ≤ c.at → direction_of (kind_of c.part) ≡ Some direction → ahead_of c ≤ length c.part
    → length c.part + length bytes ≤ ahead_of c + body_length c.part → events_by c bytes ≡ flow_events (context_in c direction) (flow_in c direction) bytes
lifted-events c direction [] past_header goes there fits = refl
lifted-events c direction (byte ∷ []) past_header goes there fits = ap (λ placed. put placed []) (lifted-placed c direction byte past_header goes there)
lifted-events c direction (byte ∷ next ∷ bytes) past_header goes there fits =
    ap (λ placed. events_by (after c byte) (next ∷ bytes) ++ put placed []) (lifted-placed c direction byte past_header goes there)
    ∙ ap (λ completed. completed ++ put (flow_placed (context_in c direction) (flow_in c direction) byte) [])
    (ap (λ k. events_by k (next ∷ bytes)) (then_is c direction byte next bytes past_header goes there fits)
    ∙ lifted-events (then_kept c direction byte next bytes past_header goes there fits) direction (next ∷ bytes)
    (then_at c direction byte next bytes past_header goes there fits) (then_goes c direction byte next bytes past_header goes there fits)
    (then_there c direction byte next bytes past_header goes there fits) (then_fits c direction byte next bytes past_header goes there fits)
    ∙ ap (λ context. flow_events context (flow_in (then_kept c direction byte next bytes past_header goes there fits) direction) (next ∷ bytes)) (then_context c direction byte next bytes past_header goes there fits)
    ∙ ap (λ g. flow_events (context_in c direction) g (next ∷ bytes)) (then_flows c direction byte next bytes past_header goes there fits))

-- .. and leave what they leave there.
pub lifted-after_bytes : (c : Context) (direction : Direction) (bytes : List ℕ) → 8 ≤ c.at → direction_of (kind_of c.part) ≡ Some direction → ahead_of c ≤ length c.part
    → length c.part < ahead_of c + body_length c.part → length c.part + length bytes ≤ ahead_of c + body_length c.part
    → after_bytes c bytes ≡ flowed c direction (length c.part + length bytes == ahead_of c + body_length c.part) (flow_after_bytes (context_in c direction) (flow_in c direction) bytes) bytes
lifted-after_bytes c direction [] past_header goes there less fits =
    sym (ap (λ b. flowed c direction b (flow_in c direction) []) (ne_eqb (length c.part + length {A = ℕ} []) (ahead_of c + body_length c.part) (λ same. (omega arith))) ∙ flowed_none c direction)
lifted-after_bytes c direction (byte ∷ []) past_header goes there less fits =
    let one : length c.part + 1 ≡ length c.part + length (byte ∷ []) = omega arith in
    lifted-after c direction byte past_header goes there less
    ∙ ap (λ n. flowed c direction (n == ahead_of c + body_length c.part) (flow_after (context_in c direction) (flow_in c direction) byte) (byte ∷ [])) one
lifted-after_bytes c direction (byte ∷ next ∷ bytes) past_header goes there less fits =
    let c' : Context = then_kept c direction byte next bytes past_header goes there fits in
    ap (λ k. after_bytes k (next ∷ bytes)) (then_is c direction byte next bytes past_header goes there fits)
    ∙ lifted-after_bytes (then_kept c direction byte next bytes past_header goes there fits) direction (next ∷ bytes)
    (then_at c direction byte next bytes past_header goes there fits) (then_goes c direction byte next bytes past_header goes there fits)
    (then_there c direction byte next bytes past_header goes there fits) (then_less c direction byte next bytes past_header goes there fits)
    (then_fits c direction byte next bytes past_header goes there fits)
    ∙ ap (λ context. flowed c' direction (length c'.part + length (next ∷ bytes) == ahead_of c + body_length c'.part) (flow_after_bytes context (flow_in c' direction) (next ∷ bytes)) (next ∷ bytes)) (then_context c direction byte next bytes past_header goes there fits)
    ∙ ap (λ b. flowed c' direction b (flow_after_bytes (context_in c direction) (flow_in c' direction) (next ∷ bytes)) (next ∷ bytes)) (then_whole c direction byte next bytes past_header goes there fits)
    ∙ ap (λ g. flowed c' direction (length c.part + length (byte ∷ next ∷ bytes) == ahead_of c + body_length c.part) (flow_after_bytes (context_in c direction) g (next ∷ bytes)) (next ∷ bytes)) (then_flows c direction byte next bytes past_header goes there fits)
    ∙ flowed_twice c direction (length c.part + length (byte ∷ next ∷ bytes) == ahead_of c + body_length c.part) (flow_after (context_in c direction) (flow_in c direction) byte)
    (flow_after_bytes (context_in c direction) (flow_after (context_in c direction) (flow_in c direction) byte) (next ∷ bytes)) (byte ∷ []) (next ∷ bytes)

-- What a step of a direction comes to, and what stops it.
use Rattle.std.proofs.Common.{◌≡◌, ℕ, ◌+◌, ◌<◌, ◌≤◌, Bool, true, false, cond, List, [], ◌∷◌, ◌++◌, length, Option, Some, None, refl, sym, ap, ◌∙◌, arith, length-append, append_assoc, subst, take, drop, length-take-le}
use Rattle.std.proofs.Common.{inl, inr, Result, Ok, Err}
use Rattle.std.specs.Prelude.{option_map, ◌||◌, OnOk, IfErr, slice_index}
use Rattle.std.proofs.lemmas.List.{take-append-drop}
use Rattle.mq_packet.specs.declared.header.FixedHeader.{FixedHeader}
use Rattle.mq_packet.specs.declared.header.FixedHeader.TheVariants as headers
use Rattle.mq_packet.specs.Stream.{fixed_header_of, frame_size, is_lost}
use Rattle.mq_packet.proofs.Exports.{header_from_frame, whole_stays, lost_stays, frame_bounds, frame_stood, short_few, short_no_frame, no_frame_yet}
use Rattle.mq_log.specs.declared.kind.Direction.{Direction}
use Rattle.mq_log.specs.declared.kind.Direction.TheVariants as directions
use Rattle.mq_log.specs.declared.refusal.Refusal.{Refusal}
use Rattle.mq_log.specs.declared.refusal.Refusal.TheVariants as refusals
use Rattle.mq_trace.specs.declared.connections.Connections.{Connections}
use Rattle.mq_trace.specs.declared.deframer.BodyContext.{BodyContext as ContextInMemory}
use Rattle.mq_log.specs.Events.{Item, Event, Placed, item_read, read_frame}
use Rattle.std.specs.Option.{option_or}
use Rattle.mq_log.specs.Refusals.{is_too_large, is_other_version}
use Rattle.mq_trace.proofs.ItemLaws.{met_other}
use Rattle.mq_log.specs.Connections.{is_answer}
use Rattle.mq_log.specs.Context.{StreamState, so_far_in, put}
use Rattle.mq_log.specs.Reception.{AreEvents}
use Rattle.mq_trace.specs.Keeping.{IsShort, IsUnfinished}
use Rattle.mq_trace.specs.Emission.{connections_with, RefusedBySink, NotEmitted}
use Rattle.mq_log.specs.Flows.{BodyContext, Flow, item_event, flow_refusal, flow_placed_with, flow_with, flow_after_bytes, flow_refused, flow_events}
use Rattle.mq_trace.specs.Deframing.{body_context, flow_of, frame_event, frame_refusal, connections_then, NeedsMemory, FlowWhy, FlowStops, FlowComes}
use Rattle.mq_trace.proofs.FlowLaws.{not_lost, lost-after, HasLast, has_last, IsQuiet, until_last, quiet-refused, quiet-events, quiet-after, short-refused, short-events, short-after, complete-refused-within, complete-events-frame, complete-after-frame}

-- a direction that isn't lost, with these bytes of an unfinished packet
abbrev pub going_on : List ℕ → StreamState
going_on unfinished = record { unfinished = unfinished; lost = false }

-- an item that goes either way neither begins nor ends a connection
with_item : (server : Bool) (c : Connections) (direction : Direction) (item : Item) → connections_with server c (item_event direction item) ≡ record { events = c.events + 1; connected = c.connected; connack_seen = is_answer server (item_event direction item) || c.connack_seen; before_open = c.before_open }
with_item server c directions.Sent item = refl
with_item server c directions.Recv item = refl

-- what is kept after an item, if there is one
pub flow_then : (context : ContextInMemory) (at : ℕ) (state : StreamState) (c : Connections) (item : Option Item)
    → flow_with (body_context context) (flow_of at state c) (option_map (item_event context.direction) item) ≡ flow_of at state (connections_then context.server c (option_map (item_event context.direction) item))
flow_then context at state c None = refl
flow_then context at state c (Some item) = ap (λ (k : Connections). flow_of at state k) (sym (with_item context.server c context.direction item))

-- the event at its place doesn't depend on where in the log its last byte stands
pub put_same : (context : BodyContext) (at at' : ℕ) (state state' : StreamState) (c : Connections) (event : Option Event) (earlier : List Placed)
    → put (flow_placed_with context (flow_of at state c) event) [] ++ earlier ≡ put (flow_placed_with context (flow_of at' state' c) event) earlier
put_same context at at' state state' c None earlier = refl
put_same context at at' state state' c (Some event) earlier = refl

placed_same : (context : BodyContext) (at at' : ℕ) (state state' : StreamState) (c : Connections) (event : Option Event) → flow_placed_with context (flow_of at state c) event ≡ flow_placed_with context (flow_of at' state' c) event
placed_same context at at' state state' c None = refl
placed_same context at at' state state' c (Some event) = refl

no_item : (direction : Direction) (item : Option Item) → option_map (item_event direction) item ≡ None → item ≡ None
no_item direction None e = refl
no_item direction (Some item) e = absurd (cc)

-- a frame that is no item is met by a refusal
pub met_none : (at : ℕ) (context : BodyContext) (f : Flow) (frame : List ℕ) → frame_event context.direction frame ≡ None → frame_refusal at context f frame ≡ Some (refusals.OtherVersion at)
met_none at context f frame e =
    (let other : is_other_version (read_frame frame) ≡ true = met_other frame (no_item context.direction (item_read frame (read_frame frame)) e) in
    rw (other) refl)

-- A packet with one byte more isn't whole, and not known to be larger than the limit.
abbrev pub GoesOn : ℕ → List ℕ → ℕ → Type 0
GoesOn limit u byte = IsShort limit (u ++ byte ∷ []) (fixed_header_of (u ++ byte ∷ []))

-- So are its first bytes.
before_short : (limit : ℕ) (t more : List ℕ) → IsShort limit (t ++ more) (fixed_header_of (t ++ more)) → IsShort limit t (fixed_header_of t)
before_short limit t more short = by (fixed_header_of t) refl
  where
    by : (front : FixedHeader) → fixed_header_of t ≡ front → IsShort limit t front
    by headers.Short e = short_few t e
    by headers.Lost e = absurd (subst (IsShort limit (t ++ more)) (lost_stays t more e) short)
    by (headers.Whole header size) e =
        let longer : IsShort limit (t ++ more) (headers.Whole header size) = subst (IsShort limit (t ++ more)) (whole_stays t more header size e) short in
        let sum : length (t ++ more) ≡ length t + length more = length-append t more in
        (omega (arith, longer.0, sum), longer.1)

first_short : (limit : ℕ) (u bytes : List ℕ) (byte : ℕ) (more : List ℕ) → bytes ≡ byte ∷ more → IsShort limit (u ++ bytes) (fixed_header_of (u ++ bytes)) → GoesOn limit u byte
first_short limit u bytes byte more is short =
    let all : u ++ bytes ≡ (u ++ byte ∷ []) ++ more = ap (λ (t : List ℕ). u ++ t) is ∙ sym (append_assoc u (byte ∷ []) more) in
    before_short limit (u ++ byte ∷ []) more (subst (λ (t : List ℕ). IsShort limit t (fixed_header_of t)) all short)

-- There are bytes where a fixed header is whole.
pub begun_some : (u : List ℕ) (header size : ℕ) → fixed_header_of u ≡ headers.Whole header size → 1 ≤ length u
unfolding fixed_header_of
begun_some [] header size e = absurd (cc)
begun_some (byte ∷ u) header size e = omega arith

-- Bytes of an unfinished packet, with which it isn't whole: the first ones, ..
pub begins_short : (limit : ℕ) (u bytes : List ℕ) → u ≡ [] → IsShort limit bytes (fixed_header_of bytes) → IsShort limit (u ++ bytes) (fixed_header_of (u ++ bytes))
begins_short limit u bytes none short = subst (λ (t : List ℕ). IsShort limit (t ++ bytes) (fixed_header_of (t ++ bytes))) (sym none) short

-- .. and later ones.
pub more_short : (limit : ℕ) (u bytes : List ℕ) (header size : ℕ) → fixed_header_of u ≡ headers.Whole header size → IsShort limit u (fixed_header_of u) → length u + length bytes < size
    → IsShort limit (u ++ bytes) (fixed_header_of (u ++ bytes))
more_short limit u bytes header size e short less =
    let within : (length u < size) × (size ≤ limit) = subst (IsShort limit u) e short in
    let sum : length (u ++ bytes) ≡ length u + length bytes = length-append u bytes in
    let all : (length (u ++ bytes) < size) × (size ≤ limit) = (omega (arith, sum, less), within.1) in
    subst (IsShort limit (u ++ bytes)) (sym (whole_stays u bytes header size e)) all

-- The first of several bytes, with which a packet is whole, goes on with it.
goes_part : (limit : ℕ) (u bytes : List ℕ) → frame_size (u ++ bytes) ≡ Some (length (u ++ bytes)) → length (u ++ bytes) ≤ limit → 1 < length bytes
    → (byte : ℕ) (more : List ℕ) → bytes ≡ byte ∷ more → GoesOn limit u byte
goes_part limit u bytes whole within several byte more is = by (fixed_header_of (u ++ byte ∷ [])) refl
  where
    found : (header : ℕ) × (fixed_header_of (u ++ bytes) ≡ headers.Whole header (length (u ++ bytes))) × (length (u ++ bytes) ≤ length (u ++ bytes))
    found = header_from_frame (u ++ bytes) (length (u ++ bytes)) whole

    all : u ++ bytes ≡ (u ++ byte ∷ []) ++ more
    all = ap (λ (t : List ℕ). u ++ t) is ∙ sym (append_assoc u (byte ∷ []) more)

    by : (front : FixedHeader) → fixed_header_of (u ++ byte ∷ []) ≡ front → IsShort limit (u ++ byte ∷ []) front
    by headers.Short e = short_few (u ++ byte ∷ []) e
    by headers.Lost e =
        let stays : fixed_header_of (u ++ bytes) ≡ headers.Lost = ap fixed_header_of all ∙ lost_stays (u ++ byte ∷ []) more e in
        let never : headers.Lost ≡ headers.Whole found.0 (length (u ++ bytes)) = sym stays ∙ found.1 in
        absurd (cc)
    by (headers.Whole header size) e =
        let stays : fixed_header_of (u ++ bytes) ≡ headers.Whole header size = ap fixed_header_of all ∙ whole_stays (u ++ byte ∷ []) more header size e in
        let one : headers.Whole header size ≡ headers.Whole found.0 (length (u ++ bytes)) = sym stays ∙ found.1 in
        let same : size ≡ length (u ++ bytes) = cc in
        let sum : length (u ++ bytes) ≡ length (u ++ byte ∷ []) + length more = ap length all ∙ length-append (u ++ byte ∷ []) more in
        let rest : length bytes ≡ length more + 1 = ap length is ∙ (let one_more : length (byte ∷ more) ≡ length more + 1 = omega arith in one_more) in
        (omega (arith, same, sum, rest, several), omega (arith, same, within))

-- A byte that goes on with its packet meets no refusal, and may need memory.
goes_unmet : (limit : ℕ) (context : BodyContext) (f : Flow) (byte : ℕ) → f.state.lost ≡ false → GoesOn limit f.state.unfinished byte
    → (flow_refused limit context f (byte ∷ []) ≡ None) × NeedsMemory (so_far_in f.state byte)
goes_unmet limit context f byte open_yet short = by (fixed_header_of (f.state.unfinished ++ byte ∷ [])) refl short
  where
    state_is : f.state ≡ going_on f.state.unfinished
    state_is = ap (λ (l : Bool). record { unfinished = f.state.unfinished; lost = l }) open_yet

    needs : frame_size (f.state.unfinished ++ byte ∷ []) ≡ None → is_lost (f.state.unfinished ++ byte ∷ []) ≡ false → NeedsMemory (so_far_in f.state byte)
    needs none found =
        let is : so_far_in f.state byte ≡ f.state.unfinished ++ byte ∷ [] = ap (λ (l : Bool). cond l [] (f.state.unfinished ++ byte ∷ [])) open_yet in
        let longer : length (f.state.unfinished ++ byte ∷ []) ≡ length f.state.unfinished + 1 = length-append f.state.unfinished (byte ∷ []) in
        subst NeedsMemory (sym is) (record { packet = omega (arith, longer); unended = none; unlost = found })

    by : (front : FixedHeader) → fixed_header_of (f.state.unfinished ++ byte ∷ []) ≡ front → IsShort limit (f.state.unfinished ++ byte ∷ []) front
        → (flow_refused limit context f (byte ∷ []) ≡ None) × NeedsMemory (so_far_in f.state byte)
    by headers.Short e few = (
      short-refused limit context f f.state.unfinished (byte ∷ []) state_is e,
      needs (short_no_frame (f.state.unfinished ++ byte ∷ []) e) (not_lost (f.state.unfinished ++ byte ∷ []) headers.Short e (λ same. (cc))),
    )
    by headers.Lost e never = absurd never
    by (headers.Whole header size) e bounds = (
      quiet-refused limit context f f.state.unfinished (byte ∷ []) header size state_is e bounds.0 (inl bounds.1),
      needs (no_frame_yet (f.state.unfinished ++ byte ∷ []) header size e bounds.0) (not_lost (f.state.unfinished ++ byte ∷ []) (headers.Whole header size) e (λ same. (cc))),
    )

-- Memory was refused for the first of these bytes, ..
stops_first : {S : Type 0} (declines : S → S → List Placed → Refusal → Type 0) (limit : ℕ) (context : BodyContext) (f : Flow) (bytes : List ℕ) (sink : S) → 0 < length bytes → f.state.lost ≡ false
    → ((byte : ℕ) (more : List ℕ) → bytes ≡ byte ∷ more → GoesOn limit f.state.unfinished byte) → FlowStops declines limit context f bytes sink sink (refusals.Memory f.at)
stops_first declines limit context f [] sink some open_yet goes = absurd (omega arith)
stops_first declines limit context f (byte ∷ bytes) sink some open_yet goes =
    let here = goes_unmet limit context f byte open_yet (goes byte bytes refl) in
    record {
      taken = [];
      byte = byte;
      later = bytes;
      is = refl;
      unrefused = refl;
      completes_none = refl;
      why = inr (inl (ap (λ (n : ℕ). refusals.Memory n) (let same : f.at ≡ f.at + length {A = ℕ} [] = omega arith in same), refl, here.0, here.1));
    }

-- .. with which the packet isn't whole, ..
pub stops_memory : {S : Type 0} (declines : S → S → List Placed → Refusal → Type 0) (limit : ℕ) (context : BodyContext) (f : Flow) (bytes : List ℕ) (sink : S) → 0 < length bytes → f.state.lost ≡ false
    → IsShort limit (f.state.unfinished ++ bytes) (fixed_header_of (f.state.unfinished ++ bytes)) → FlowStops declines limit context f bytes sink sink (refusals.Memory f.at)
stops_memory declines limit context f bytes sink some open_yet short = stops_first declines limit context f bytes sink some open_yet (λ byte more is. first_short limit f.state.unfinished bytes byte more is short)

-- .. or of several, with which it is.
pub stops_part : {S : Type 0} (declines : S → S → List Placed → Refusal → Type 0) (limit : ℕ) (context : BodyContext) (f : Flow) (bytes : List ℕ) (sink : S) → 1 < length bytes → f.state.lost ≡ false
    → frame_size (f.state.unfinished ++ bytes) ≡ Some (length (f.state.unfinished ++ bytes)) → length (f.state.unfinished ++ bytes) ≤ limit → FlowStops declines limit context f bytes sink sink (refusals.Memory f.at)
stops_part declines limit context f bytes sink several open_yet whole within =
    stops_first declines limit context f bytes sink (omega (arith, several)) open_yet (goes_part limit f.state.unfinished bytes whole within several)

-- A byte that ends a fixed header with a size over the limit is refused.
pub stops_over : {S : Type 0} (declines : S → S → List Placed → Refusal → Type 0) (limit : ℕ) (context : BodyContext) (f : Flow) (byte : ℕ) (sink : S) → f.state.lost ≡ false
    → is_too_large limit (f.state.unfinished ++ byte ∷ []) (fixed_header_of (f.state.unfinished ++ byte ∷ [])) ≡ true → FlowStops declines limit context f (byte ∷ []) sink sink (refusals.TooLarge f.at)
unfolding flow_refusal
stops_over declines limit context f byte sink open_yet over =
    (let is : so_far_in f.state byte ≡ f.state.unfinished ++ byte ∷ [] = ap (λ (l : Bool). cond l [] (f.state.unfinished ++ byte ∷ [])) open_yet in
    let large : is_too_large limit (so_far_in f.state byte) (fixed_header_of (so_far_in f.state byte)) ≡ true = ap (λ (t : List ℕ). is_too_large limit t (fixed_header_of t)) is ∙ over in
    let met : flow_refusal limit context f byte ≡ Some (refusals.TooLarge f.at) = rw (large) refl in
    record {
      taken = [];
      byte = byte;
      later = [];
      is = refl;
      unrefused = refl;
      completes_none = refl;
      why = inl (ap (λ (o : Option Refusal). option_or o None) met, refl);
    })

module _ {S : Type 0} (agrees : S → List Placed → Type 0) (declines : S → S → List Placed → Refusal → Type 0) (limit : ℕ) (context : ContextInMemory) (at last : ℕ) (c : Connections) (u bytes : List ℕ)
    (whole : frame_size (u ++ bytes) ≡ Some (length (u ++ bytes))) (some : 0 < length bytes) (is_last : last + 1 ≡ at + length bytes) (within : length (u ++ bytes) ≤ limit) where
  -- The bytes that complete a packet come to what emitting it comes to ..
  pub completes : (c' : Connections) (old new : S) → frame_refusal last (body_context context) (flow_of last (going_on []) c) (u ++ bytes) ≡ None
      → c' ≡ connections_then context.server c (frame_event context.direction (u ++ bytes))
      → ((earlier : List Placed) → agrees old earlier → AreEvents (put (flow_placed_with (body_context context) (flow_of last (going_on []) c) (frame_event context.direction (u ++ bytes))) earlier)
      → agrees new (put (flow_placed_with (body_context context) (flow_of last (going_on []) c) (frame_event context.direction (u ++ bytes))) earlier))
      → FlowComes agrees limit (body_context context) (flow_of at (going_on u) c) (flow_of (at + length bytes) (going_on []) c') bytes old new
  completes c' old new met kept emitted =
      (let completed : flow_events (body_context context) (flow_of at (going_on u) c) bytes ≡ put (flow_placed_with (body_context context) (flow_of at (going_on u) c) (frame_event context.direction (u ++ bytes))) []
      = complete-events-frame (body_context context) (flow_of at (going_on u) c) u bytes refl whole some in
      let same : (earlier : List Placed) → flow_events (body_context context) (flow_of at (going_on u) c) bytes ++ earlier ≡ put (flow_placed_with (body_context context) (flow_of last (going_on []) c) (frame_event context.direction (u ++ bytes))) earlier
      = λ earlier. ap (λ (l : List Placed). l ++ earlier) completed ∙ put_same (body_context context) at last (going_on u) (going_on []) c (frame_event context.direction (u ++ bytes)) earlier in
      record {
        unrefused = complete-refused-within limit (body_context context) (flow_of at (going_on u) c) u bytes last refl whole some is_last within ∙ met;
        kept = complete-after-frame (body_context context) (flow_of at (going_on u) c) u bytes refl whole some
            ∙ flow_then context (at + length bytes) (going_on []) c _
            ∙ ap (λ (k : Connections). flow_of (at + length bytes) (going_on []) k) (sym kept);
        emitted = λ earlier was are. subst (agrees new) (sym (same earlier)) (emitted earlier was (subst AreEvents (same earlier) are));
      })

  -- .. and stop where emitting it stops: at the last of them.
  pub stops_by : HasLast bytes → (old new : S) (refusal : Refusal)
      → NotEmitted declines last (frame_refusal last (body_context context) (flow_of last (going_on []) c) (u ++ bytes)) (put (flow_placed_with (body_context context) (flow_of last (going_on []) c) (frame_event context.direction (u ++ bytes))) []) old new refusal
      → FlowStops declines limit (body_context context) (flow_of at (going_on u) c) bytes old new refusal
  stops_by cut old new refusal unemitted =
      (let f : Flow = flow_of at (going_on u) c in
      let joined : bytes ≡ cut.before ++ cut.byte ∷ [] = cut.joined in
      let frame : u ++ bytes ≡ (u ++ cut.before) ++ cut.byte ∷ [] = ap (λ (t : List ℕ). u ++ t) joined ∙ sym (append_assoc u cut.before (cut.byte ∷ [])) in
      let found : (header : ℕ) × (fixed_header_of (u ++ bytes) ≡ headers.Whole header (length (u ++ bytes))) × (length (u ++ bytes) ≤ length (u ++ bytes)) = header_from_frame (u ++ bytes) (length (u ++ bytes)) whole in
      let longer : length (u ++ bytes) ≡ length (u ++ cut.before) + 1 = ap length frame ∙ length-append (u ++ cut.before) (cut.byte ∷ []) in
      let known : fixed_header_of ((u ++ cut.before) ++ cut.byte ∷ []) ≡ headers.Whole found.0 (length (u ++ bytes)) = ap fixed_header_of (sym frame) ∙ found.1 in
      let quiet : IsQuiet limit (body_context context) f cut.before (going_on (u ++ cut.before))
      = until_last (body_context context) f u cut.before cut.byte refl found.0 (length (u ++ bytes)) known (ap length frame) limit (inl within) in
      let more : length bytes ≡ length cut.before + 1 = ap length joined ∙ length-append cut.before (cut.byte ∷ []) in
      let here : last ≡ at + length cut.before = omega arith in
      let met : flow_refused limit (body_context context) f (cut.before ++ cut.byte ∷ []) ≡ frame_refusal last (body_context context) (flow_of last (going_on []) c) (u ++ bytes)
      = ap (flow_refused limit (body_context context) f) (sym joined) ∙ complete-refused-within limit (body_context context) f u bytes last refl whole some is_last within in
      let completed : flow_events (body_context context) f (cut.before ++ cut.byte ∷ []) ≡ put (flow_placed_with (body_context context) f (frame_event context.direction (u ++ bytes))) []
      = ap (flow_events (body_context context) f) (sym joined) ∙ complete-events-frame (body_context context) f u bytes refl whole some in
      record {
        taken = cut.before;
        byte = cut.byte;
        later = [];
        is = joined;
        unrefused = quiet.refused;
        completes_none = quiet.completed;
        why = subst (λ (n : ℕ). FlowWhy declines n (so_far_in (flow_after_bytes (body_context context) f cut.before).state cut.byte) (flow_refused limit (body_context context) f (cut.before ++ cut.byte ∷ []))
            (flow_events (body_context context) f (cut.before ++ cut.byte ∷ [])) old new refusal) here
            (why_by (so_far_in (flow_after_bytes (body_context context) f cut.before).state cut.byte) (flow_refused limit (body_context context) f (cut.before ++ cut.byte ∷ []))
            (flow_events (body_context context) f (cut.before ++ cut.byte ∷ [])) met (completed ∙ ap (λ (o : Option Placed). put o []) (placed_same (body_context context) at last (going_on u) (going_on []) c (frame_event context.direction (u ++ bytes)))) old new refusal unemitted);
      })
    where
      -- what isn't met is an item, and is received
      one_completed : (event : Option Event) → frame_event context.direction (u ++ bytes) ≡ event → frame_refusal last (body_context context) (flow_of last (going_on []) c) (u ++ bytes) ≡ None
          → length (put (flow_placed_with (body_context context) (flow_of last (going_on []) c) (frame_event context.direction (u ++ bytes))) []) ≡ 1
      one_completed None e none = let some : frame_refusal last (body_context context) (flow_of last (going_on []) c) (u ++ bytes) ≡ Some (refusals.OtherVersion last) = met_none last (body_context context) (flow_of last (going_on []) c) (u ++ bytes) e in absurd (cc)
      one_completed (Some event) e none = ap (λ (o : Option Event). length (put (flow_placed_with (body_context context) (flow_of last (going_on []) c) o) [])) e

      why_by : (so_far : List ℕ) (met : Option Refusal) (completed : List Placed) → met ≡ frame_refusal last (body_context context) (flow_of last (going_on []) c) (u ++ bytes)
          → completed ≡ (put (flow_placed_with (body_context context) (flow_of last (going_on []) c) (frame_event context.direction (u ++ bytes))) []) → (old new : S) (refusal : Refusal)
          → NotEmitted declines last (frame_refusal last (body_context context) (flow_of last (going_on []) c) (u ++ bytes)) (put (flow_placed_with (body_context context) (flow_of last (going_on []) c) (frame_event context.direction (u ++ bytes))) []) old new refusal
          → FlowWhy declines last so_far met completed old new refusal
      why_by so_far met completed same one old new refusal (inl x) = inl (same ∙ x.0, x.1)
      why_by so_far met completed same one old new refusal (inr x) =
          inr (inr (same ∙ x.0, ap length one ∙ one_completed (frame_event context.direction (u ++ bytes)) refl x.0, subst (λ (l : List Placed). RefusedBySink declines last l old new refusal) (sym one) x.1))

  pub comes_of : {A : Type 0} (r : Result A Refusal) (c' : Connections) (old new : S) → OnOk r (frame_refusal last (body_context context) (flow_of last (going_on []) c) (u ++ bytes) ≡ None)
      → OnOk r (c' ≡ connections_then context.server c (frame_event context.direction (u ++ bytes)))
      → ((earlier : List Placed) → agrees old earlier → AreEvents (put (flow_placed_with (body_context context) (flow_of last (going_on []) c) (frame_event context.direction (u ++ bytes))) earlier)
      → OnOk r (agrees new (put (flow_placed_with (body_context context) (flow_of last (going_on []) c) (frame_event context.direction (u ++ bytes))) earlier)))
      → OnOk r (FlowComes agrees limit (body_context context) (flow_of at (going_on u) c) (flow_of (at + length bytes) (going_on []) c') bytes old new)
  comes_of (Ok x) c' old new met kept emitted = completes c' old new met kept emitted
  comes_of (Err refusal) c' old new met kept emitted = tt

  pub stops_of : {A : Type 0} (r : Result A Refusal) (old new : S) → IfErr r (λ refusal. NotEmitted declines last (frame_refusal last (body_context context) (flow_of last (going_on []) c) (u ++ bytes)) (put (flow_placed_with (body_context context) (flow_of last (going_on []) c) (frame_event context.direction (u ++ bytes))) []) old new refusal)
      → IfErr r (λ refusal. FlowStops declines limit (body_context context) (flow_of at (going_on u) c) bytes old new refusal)
  stops_of (Ok x) old new unemitted = tt
  stops_of (Err refusal) old new unemitted = stops_by (has_last bytes some) old new refusal unemitted

-- A whole packet whose bytes in memory are these, and the part of them that came last: what emitting it comes to, and what stops it.
module _ {S : Type 0} (agrees : S → List Placed → Type 0) (declines : S → S → List Placed → Refusal → Type 0) (limit : ℕ) (context : ContextInMemory) (at last : ℕ) (c : Connections) (u bytes frame : List ℕ)
    (is : frame ≡ u ++ bytes) (whole : frame_size (u ++ bytes) ≡ Some (length (u ++ bytes))) (some : 0 < length bytes) (is_last : last + 1 ≡ at + length bytes) (within : length (u ++ bytes) ≤ limit) where
  pub ended : {A : Type 0} (r : Result A Refusal) (c' : Connections) (old new : S) → OnOk r (frame_refusal last (body_context context) (flow_of last (going_on []) c) frame ≡ None)
      → OnOk r (c' ≡ connections_then context.server c (frame_event context.direction frame))
      → ((earlier : List Placed) → agrees old earlier → AreEvents (put (flow_placed_with (body_context context) (flow_of last (going_on []) c) (frame_event context.direction frame)) earlier)
      → OnOk r (agrees new (put (flow_placed_with (body_context context) (flow_of last (going_on []) c) (frame_event context.direction frame)) earlier)))
      → OnOk r (FlowComes agrees limit (body_context context) (flow_of at (going_on u) c) (flow_of (at + length bytes) (going_on []) c') bytes old new)
  ended {A} r c' old new =
      (let P : List ℕ → Type 0 = λ t. OnOk r (frame_refusal last (body_context context) (flow_of last (going_on []) c) t ≡ None)
      → OnOk r (c' ≡ connections_then context.server c (frame_event context.direction t))
      → ((earlier : List Placed) → agrees old earlier → AreEvents (put (flow_placed_with (body_context context) (flow_of last (going_on []) c) (frame_event context.direction t)) earlier)
      → OnOk r (agrees new (put (flow_placed_with (body_context context) (flow_of last (going_on []) c) (frame_event context.direction t)) earlier)))
      → OnOk r (FlowComes agrees limit (body_context context) (flow_of at (going_on u) c) (flow_of (at + length bytes) (going_on []) c') bytes old new) in
      subst P (sym is) (comes_of agrees declines limit context at last c u bytes whole some is_last within r c' old new))

  pub ended_stops : {A : Type 0} (r : Result A Refusal) (old new : S) → IfErr r (λ refusal. NotEmitted declines last (frame_refusal last (body_context context) (flow_of last (going_on []) c) frame) (put (flow_placed_with (body_context context) (flow_of last (going_on []) c) (frame_event context.direction frame)) []) old new refusal)
      → IfErr r (λ refusal. FlowStops declines limit (body_context context) (flow_of at (going_on u) c) bytes old new refusal)
  ended_stops {A} r old new =
      (let P : List ℕ → Type 0 = λ t. IfErr r (λ refusal. NotEmitted declines last (frame_refusal last (body_context context) (flow_of last (going_on []) c) t) (put (flow_placed_with (body_context context) (flow_of last (going_on []) c) (frame_event context.direction t)) []) old new refusal)
      → IfErr r (λ refusal. FlowStops declines limit (body_context context) (flow_of at (going_on u) c) bytes old new refusal) in
      subst P (sym is) (stops_of agrees declines limit context at last c u bytes whole some is_last within r old new))

-- A direction with no unfinished packet.
pub nothing_unfinished : (limit : ℕ) (lost : Bool) → IsUnfinished limit (record { unfinished = []; lost = lost })
unfolding fixed_header_of
nothing_unfinished limit lost = (omega arith, λ is. refl)

-- what an unfinished packet's header says
pub short_is : (limit : ℕ) (u : List ℕ) (header size : ℕ) → fixed_header_of u ≡ headers.Whole header size → IsShort limit u (fixed_header_of u) → (length u < size) × (size ≤ limit)
short_is limit u header size e short = subst (IsShort limit u) e short

-- Bytes of a packet do nothing but stay, where it isn't whole with them, and not known to be larger than the limit, ..
pub stays : {S : Type 0} (agrees : S → List Placed → Type 0) (limit : ℕ) (context : BodyContext) (at : ℕ) (c : Connections) (state new_state : StreamState) (bytes : List ℕ) (sink : S) → state.lost ≡ false
    → new_state ≡ record { unfinished = state.unfinished ++ bytes; lost = state.lost } → IsShort limit (state.unfinished ++ bytes) (fixed_header_of (state.unfinished ++ bytes))
    → FlowComes agrees limit context (flow_of at state c) (flow_of (at + length bytes) new_state c) bytes sink sink
stays {S} agrees limit context at c state new_state bytes sink open_yet kept short = by (fixed_header_of (state.unfinished ++ bytes)) refl short
  where
    is : state ≡ going_on state.unfinished
    is = ap (λ (l : Bool). record { unfinished = state.unfinished; lost = l }) open_yet

    kept_is : going_on (state.unfinished ++ bytes) ≡ new_state
    kept_is = sym (kept ∙ ap (λ (l : Bool). record { unfinished = state.unfinished ++ bytes; lost = l }) open_yet)

    comes : flow_refused limit context (flow_of at state c) bytes ≡ None → flow_events context (flow_of at state c) bytes ≡ []
        → flow_after_bytes context (flow_of at state c) bytes ≡ flow_of (at + length bytes) (going_on (state.unfinished ++ bytes)) c
        → FlowComes agrees limit context (flow_of at state c) (flow_of (at + length bytes) new_state c) bytes sink sink
    comes unrefused completed after_bytes = record {
      unrefused = unrefused;
      kept = after_bytes ∙ ap (λ (h : StreamState). flow_of (at + length bytes) h c) kept_is;
      emitted = λ earlier was are. subst (λ (l : List Placed). agrees sink (l ++ earlier)) (sym completed) was;
    }

    by : (front : FixedHeader) → fixed_header_of (state.unfinished ++ bytes) ≡ front → IsShort limit (state.unfinished ++ bytes) front
        → FlowComes agrees limit context (flow_of at state c) (flow_of (at + length bytes) new_state c) bytes sink sink
    by headers.Short e few = comes (short-refused limit context (flow_of at state c) state.unfinished bytes is e) (short-events context (flow_of at state c) state.unfinished bytes is e)
        (short-after context (flow_of at state c) state.unfinished bytes is e)
    by headers.Lost e never = absurd never
    by (headers.Whole header size) e bounds = comes (quiet-refused limit context (flow_of at state c) state.unfinished bytes header size is e bounds.0 (inl bounds.1))
        (quiet-events context (flow_of at state c) state.unfinished bytes header size is e bounds.0) (quiet-after context (flow_of at state c) state.unfinished bytes header size is e bounds.0)

-- .. and it is unfinished.
pub stays_unfinished : (limit : ℕ) (state new_state : StreamState) (bytes : List ℕ) → state.lost ≡ false → new_state ≡ record { unfinished = state.unfinished ++ bytes; lost = state.lost }
    → IsShort limit (state.unfinished ++ bytes) (fixed_header_of (state.unfinished ++ bytes)) → IsUnfinished limit new_state
stays_unfinished limit state new_state bytes open_yet kept short =
    subst (IsUnfinished limit) (sym kept) (short, λ (is : state.lost ≡ true). (let never : false ≡ true = sym open_yet ∙ is in absurd (cc)))

-- The bytes that an unfinished packet lacks make it whole.
pub whole_with : (u bytes : List ℕ) (header size : ℕ) → fixed_header_of u ≡ headers.Whole header size → length u + length bytes ≡ size → fixed_header_of (u ++ bytes) ≡ headers.Whole header (length (u ++ bytes))
whole_with u bytes header size e all =
    (let longer : length (u ++ bytes) ≡ length u + length bytes = length-append u bytes in
    let same : size ≡ length (u ++ bytes) = omega arith in
    whole_stays u bytes header size e ∙ ap (headers.Whole header) same)

-- What stops the first of some bytes stops them.
pub stops_front : {S : Type 0} (declines : S → S → List Placed → Refusal → Type 0) (limit : ℕ) (context : BodyContext) (f : Flow) (n : ℕ) (bytes : List ℕ) (old new : S) (refusal : Refusal)
    → FlowStops declines limit context f (take n bytes) old new refusal → FlowStops declines limit context f bytes old new refusal
stops_front declines limit context f n bytes old new refusal stops = record {
  taken = stops.taken;
  byte = stops.byte;
  later = stops.later ++ drop n bytes;
  is = sym (take-append-drop n bytes) ∙ ap (λ (t : List ℕ). t ++ drop n bytes) stops.is ∙ append_assoc stops.taken (stops.byte ∷ stops.later) (drop n bytes);
  unrefused = stops.unrefused;
  completes_none = stops.completes_none;
  why = stops.why;
}

-- A whole packet at the front is all of its own bytes.
pub frame_front : (bytes : List ℕ) (size : ℕ) → frame_size bytes ≡ Some size → (1 ≤ size) × (size ≤ length bytes) × (length (take size bytes) ≡ size) × (frame_size (take size bytes) ≡ Some (length (take size bytes)))
frame_front bytes size e =
    (let bounds : (0 < size) × (size ≤ length bytes) = frame_bounds bytes size e in
    let front : length (take size bytes) ≡ size = length-take-le size bytes bounds.1 in
    let whole : frame_size (take size bytes ++ drop size bytes) ≡ Some size = ap frame_size (take-append-drop size bytes) ∙ e in
    (omega arith, bounds.1, front, frame_stood (take size bytes) (drop size bytes) size whole (omega arith) ∙ ap Some (sym front)))

-- Its fixed header is that of all.
pub header_front : (bytes : List ℕ) (header size : ℕ) → frame_size bytes ≡ Some size → fixed_header_of bytes ≡ headers.Whole header size → fixed_header_of (take size bytes) ≡ headers.Whole header (length (take size bytes))
header_front bytes header size e is =
    (let front = frame_front bytes size e in
    let known : (header' : ℕ) × (fixed_header_of (take size bytes) ≡ headers.Whole header' (length (take size bytes))) × (length (take size bytes) ≤ length (take size bytes)) = header_from_frame (take size bytes) (length (take size bytes)) front.3 in
    let stays : fixed_header_of (take size bytes ++ drop size bytes) ≡ headers.Whole known.0 (length (take size bytes)) = whole_stays (take size bytes) (drop size bytes) known.0 (length (take size bytes)) known.1 in
    let of_all : fixed_header_of bytes ≡ headers.Whole known.0 (length (take size bytes)) = ap fixed_header_of (sym (take-append-drop size bytes)) ∙ stays in
    let same : known.0 ≡ header = cc in
    known.1 ∙ ap (λ (h : ℕ). headers.Whole h (length (take size bytes))) same)

-- the first byte of some is the first of them
pub first_front : (bytes : List ℕ) → 1 ≤ length bytes → slice_index bytes 0 ∷ [] ≡ take 1 bytes
first_front [] some = absurd (omega arith)
first_front (byte ∷ bytes) some = refl

-- A direction that is lost takes in all bytes, and nothing comes of them.
pub lost_kept : (context : BodyContext) (at : ℕ) (state : StreamState) (c : Connections) (bytes : List ℕ) → state.lost ≡ true
    → flow_after_bytes context (flow_of at state c) (take (length bytes) bytes) ≡ flow_of (at + length bytes) state c
lost_kept context at state c bytes e =
    lost-after context (flow_of at state c) (take (length bytes) bytes) e ∙ ap (λ (n : ℕ). flow_of (at + n) state c) (length-take-le (length bytes) bytes (omega arith))

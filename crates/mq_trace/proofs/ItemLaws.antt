-- What a whole packet is, and what emitting it meets.
use Rattle.std.proofs.Common.{◌≡◌, ℕ, ◌-◌, ◌<◌, ◌≤◌, Bool, true, false, List, [], ◌∷◌, length, take, drop, take_all, Option, Some, None, Result, Ok, Err, refl, sym, ap, ◌∙◌, subst, inl, arith}
use Rattle.std.specs.Prelude.{slice_index, unwrap_or, option_map, OnOk, IfErr}
use Rattle.std.proofs.lemmas.List.{length-drop}
use Rattle.mq_packet.specs.declared.header.FixedHeader.TheVariants.{Whole}
use Rattle.mq_packet.specs.declared.fault.DecodeFault.{DecodeFault}
use Rattle.mq_packet.specs.declared.fault.DecodeFault.TheVariants.{Broken, OtherVersion}
use Rattle.mq_packet.specs.declared.packet.Packet.{Packet}
use Rattle.mq_packet.specs.Entries.{Entry}
use Rattle.mq_packet.specs.Reading.{view}
use Rattle.mq_packet.specs.Sizes.{size_with, remaining_length}
use Rattle.mq_packet.specs.Stream.{fixed_header_of, frame_size}
use Rattle.mq_packet.specs.Decoding.{decoded}
use Rattle.mq_packet.proofs.Exports.{header_from_frame, frame_from_header, size_above, size_of_frame}
use Rattle.mq_log.specs.declared.refusal.Refusal.{Refusal}
use Rattle.mq_log.specs.declared.refusal.Refusal.TheVariants as refusals
use Rattle.mq_log.specs.declared.kind.Direction.{Direction}
use Rattle.mq_trace.specs.declared.connections.Connections.{Connections}
use Rattle.mq_log.specs.Events.{Item, Placed, packet, item_read, read_frame}
use Rattle.mq_log.specs.Refusals.{is_other_version}
use Rattle.mq_log.specs.Context.{StreamState, put}
use Rattle.mq_log.specs.Flows.{BodyContext, item_event, flow_placed_with}
use Rattle.mq_log.specs.Reception.{AreEvents}
use Rattle.mq_trace.specs.Emission.{event_refusal, connections_with, next_placed, NotEmitted}
use Rattle.mq_trace.specs.Deframing.{flow_of, frame_event, frame_refusal, connections_then}

-- What is known of a frame.
framed : (frame : List ℕ) (header size : ℕ) → frame_size frame ≡ Some (length frame) → Whole header size ≡ fixed_header_of frame → (length frame ≡ size) × (1 ≤ header) × (header ≤ size)
framed frame header size whole e =
    (let known : (header' : ℕ) × (fixed_header_of frame ≡ Whole header' (length frame)) × (length frame ≤ length frame) = header_from_frame frame (length frame) whole in
    let same : Whole header size ≡ Whole known.0 (length frame) = e ∙ known.1 in
    let size_is : size ≡ length frame = cc in
    let above : (1 ≤ header) × (header ≤ size) = size_above frame header size (sym e) in
    (sym size_is, above.0, above.1))

-- Where a fixed header is whole and gives the size of all bytes, they are a frame.
pub frame_by_header : (frame : List ℕ) (header : ℕ) → fixed_header_of frame ≡ Whole header (length frame) → frame_size frame ≡ Some (length frame)
frame_by_header frame header e = frame_from_header frame header (length frame) e (omega arith)

-- What a frame says is what its body says.
pub read_by_body : (frame : List ℕ) (header size : ℕ) → Whole header size ≡ fixed_header_of frame → read_frame frame ≡ decoded (slice_index frame 0) (take (length frame - header) (drop header frame))
unfolding read_frame
read_by_body frame header size e =
    (let rest : take (length frame - header) (drop header frame) ≡ drop header frame = grind (arith, take_all, length-drop) in
    rw (rest, ← e) refl)

-- The size of a packet that was read of a frame's body.
pub packet_sized : (frame : List ℕ) (header size : ℕ) (p : Packet) → ((i : ℕ) → slice_index frame i < 256) → frame_size frame ≡ Some (length frame) → Whole header size ≡ fixed_header_of frame
    → remaining_length p ≡ length (take (length frame - header) (drop header frame))
    → size_with (remaining_length p) ≡ Some (length frame)
packet_sized frame header size p bytes whole e is =
    (let rest : take (length frame - header) (drop header frame) ≡ drop header frame = grind (arith, take_all, length-drop) in
    let known : (length frame ≡ size) × (1 ≤ header) × (header ≤ size) = framed frame header size whole e in
    size_of_frame frame header size p bytes (sym e) known.0 (is ∙ ap length rest))

-- What a frame is, by what it says.
pub packet_item : (frame : List ℕ) (p : Packet) → size_with (remaining_length p) ≡ Some (length frame) → read_frame frame ≡ Ok (view p) → item_read frame (read_frame frame) ≡ Some (packet (unwrap_or (size_with (remaining_length p)) 0) (view p))
packet_item frame p sized read = ap (item_read frame) read ∙ ap (λ (o : Option ℕ). Some (packet (unwrap_or o 0) (view p))) (sym sized)

-- A frame that is an item meets what its event meets, and what is kept and received is the event's.
met_read : (frame : List ℕ) (at : ℕ) (state : StreamState) (c : Connections) (direction : Direction) (item : Item) (read : Result Entry DecodeFault) → item_read frame read ≡ Some item → is_other_version read ≡ false
met_read frame at state c direction item (Ok entry) e = refl
met_read frame at state c direction item (Err (Broken fault)) e = refl
met_read frame at state c direction item (Err (OtherVersion version)) e = absurd (cc)

frame_event_is : (direction : Direction) (frame : List ℕ) (item : Item) → item_read frame (read_frame frame) ≡ Some item → frame_event direction frame ≡ Some (item_event direction item)
frame_event_is direction frame item e = ap (option_map (item_event direction)) e

pub met_item : (at : ℕ) (state : StreamState) (c : Connections) (context : BodyContext) (frame : List ℕ) (item : Item) → item_read frame (read_frame frame) ≡ Some item
    → frame_refusal at context (flow_of at state c) frame ≡ event_refusal at context.server c (item_event context.direction item)
met_item at state c context frame item e =
    (let other : is_other_version (read_frame frame) ≡ false = met_read frame at state c context.direction item (read_frame frame) e in
    let event : frame_event context.direction frame ≡ Some (item_event context.direction item) = frame_event_is context.direction frame item e in
    rw (other, event) refl)

pub kept_item : (server : Bool) (c : Connections) (direction : Direction) (frame : List ℕ) (item : Item) → item_read frame (read_frame frame) ≡ Some item
    → connections_then server c (frame_event direction frame) ≡ connections_with server c (item_event direction item)
kept_item server c direction frame item e = ap (connections_then server c) (frame_event_is direction frame item e)

pub placed_item : (at : ℕ) (context : BodyContext) (state : StreamState) (c : Connections) (frame : List ℕ) (item : Item) → item_read frame (read_frame frame) ≡ Some item
    → flow_placed_with context (flow_of at state c) (frame_event context.direction frame) ≡ Some (next_placed c context.in_record (item_event context.direction item))
placed_item at context state c frame item e = ap (flow_placed_with context (flow_of at state c)) (frame_event_is context.direction frame item e)

-- A frame that is no item is of another protocol version.
other_read : (frame : List ℕ) (read : Result Entry DecodeFault) → item_read frame read ≡ None → is_other_version read ≡ true
other_read frame (Ok entry) e = absurd (cc)
other_read frame (Err (Broken fault)) e = absurd (cc)
other_read frame (Err (OtherVersion version)) e = refl

pub met_other : (frame : List ℕ) → item_read frame (read_frame frame) ≡ None → is_other_version (read_frame frame) ≡ true
met_other frame e = other_read frame (read_frame frame) e

-- A sink that received an item received the frame that is it.
module _ {S : Type 0} (agrees : S → List Placed → Type 0) (declines : S → S → List Placed → Refusal → Type 0) {A : Type 0} (r : Result A Refusal) (at : ℕ) (state : StreamState) (c : Connections) (context : BodyContext) (frame : List ℕ) (item : Item)
    (e : item_read frame (read_frame frame) ≡ Some item) where
  pub emitted_met : OnOk r (event_refusal at context.server c (item_event context.direction item) ≡ None) → OnOk r (frame_refusal at context (flow_of at state c) frame ≡ None)
  emitted_met = subst (λ (m : Option Refusal). OnOk r (m ≡ None)) (sym (met_item at state c context frame item e))

  pub emitted_kept : (c' : Connections) → OnOk r (c' ≡ connections_with context.server c (item_event context.direction item)) → OnOk r (c' ≡ connections_then context.server c (frame_event context.direction frame))
  emitted_kept c' = subst (λ (then' : Connections). OnOk r (c' ≡ then')) (sym (kept_item context.server c context.direction frame item e))

  pub emitted_receives : (old new : S) → ((earlier : List Placed) → agrees old earlier → AreEvents (next_placed c context.in_record (item_event context.direction item) ∷ earlier) → OnOk r (agrees new (next_placed c context.in_record (item_event context.direction item) ∷ earlier)))
      → (earlier : List Placed) → agrees old earlier → AreEvents (put (flow_placed_with context (flow_of at state c) (frame_event context.direction frame)) earlier)
      → OnOk r (agrees new (put (flow_placed_with context (flow_of at state c) (frame_event context.direction frame)) earlier))
  emitted_receives old new = subst (λ (o : Option Placed). (earlier : List Placed) → agrees old earlier → AreEvents (put o earlier) → OnOk r (agrees new (put o earlier))) (sym (placed_item at context state c frame item e))

  pub emitted_err : (old new : S) → IfErr r (λ refusal. NotEmitted declines at (event_refusal at context.server c (item_event context.direction item)) (next_placed c context.in_record (item_event context.direction item) ∷ []) old new refusal)
      → IfErr r (λ refusal. NotEmitted declines at (frame_refusal at context (flow_of at state c) frame) (put (flow_placed_with context (flow_of at state c) (frame_event context.direction frame)) []) old new refusal)
  emitted_err old new unemitted =
      subst (λ (o : Option Placed). IfErr r (λ refusal. NotEmitted declines at (frame_refusal at context (flow_of at state c) frame) (put o []) old new refusal)) (sym (placed_item at context state c frame item e))
      (subst (λ (m : Option Refusal). IfErr r (λ refusal. NotEmitted declines at m (next_placed c context.in_record (item_event context.direction item) ∷ []) old new refusal)) (sym (met_item at state c context frame item e)) unemitted)

-- A frame of another version is refused as that.
pub other_met : {S : Type 0} (declines : S → S → List Placed → Refusal → Type 0) {completed : List Placed} (at : ℕ) (state : StreamState) (c : Connections) (context : BodyContext) (frame : List ℕ) (sink : S) → item_read frame (read_frame frame) ≡ None
    → NotEmitted declines at (frame_refusal at context (flow_of at state c) frame) completed sink sink (refusals.OtherVersion at)
other_met declines at state c context frame sink e = inl (rw (met_other frame e) refl, refl)

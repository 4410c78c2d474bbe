-- What the next byte of a direction comes to, which may belong to a fixed header.
use Rattle.std.proofs.Common.{◌≡◌, ℕ, ◌+◌, ◌<◌, ◌≤◌, inl, inr, Bool, true, false, List, [], ◌∷◌, ◌++◌, length, Option, Some, None, Result, Ok, Err, refl, sym, ◌∙◌, ap, subst, arith, length-append}
use Rattle.std.specs.Prelude.{◌==◌, OnOk, IfErr}
use Rattle.std.proofs.lemmas.Bool.{eqb-true}
use Rattle.mq_packet.specs.declared.header.FixedHeader.{FixedHeader}
use Rattle.mq_packet.specs.declared.header.FixedHeader.TheVariants as headers
use Rattle.mq_packet.specs.Stream.{fixed_header_of, is_lost}
use Rattle.mq_packet.proofs.Exports.{whole_stays, header_lost, ends_header}
use Rattle.mq_log.specs.declared.refusal.Refusal.{Refusal}
use Rattle.mq_trace.specs.declared.connections.Connections.{Connections}
use Rattle.mq_trace.specs.declared.deframer.BodyContext.{BodyContext as ContextInMemory}
use Rattle.mq_log.specs.Events.{Placed, lost}
use Rattle.mq_log.specs.Context.{StreamState, so_far_in, put}
use Rattle.mq_log.specs.Reception.{AreEvents}
use Rattle.mq_trace.specs.Emission.{event_refusal, connections_with, next_placed, RefusedBySink, NotEmitted}
use Rattle.mq_log.specs.Flows.{BodyContext, Flow, item_event, flow_after_bytes, flow_refused, flow_events}
use Rattle.mq_trace.specs.Deframing.{body_context, flow_of, FlowWhy, FlowStops, FlowComes}
use Rattle.mq_trace.specs.declared.deframer.ByteStep.TheVariants as byte_steps
use Rattle.mq_trace.specs.Keeping.{IsShort, IsUnfinished}
use Rattle.mq_trace.specs.Settling.{IsByteStep}
use Rattle.mq_trace.proofs.FlowLaws.{loses-refusal, loses-after, loses-placed, refused-one}
use Rattle.mq_trace.proofs.DeframerLaws.{going_on, flow_then, nothing_unfinished}

-- What a fixed header that one byte more makes whole says of its packet, unless it is refused: it isn't larger than the limit, and no more than it is there.
record Fits (limit : ℕ) (t : List ℕ) (size : ℕ) : Type 0 where
  within : size ≤ limit
  there : length t ≤ size

-- by the fixed header of the bytes before
fits_by : (limit : ℕ) (u : List ℕ) (byte header size : ℕ) (front : FixedHeader) → fixed_header_of u ≡ front → IsShort limit u front
    → fixed_header_of (u ++ byte ∷ []) ≡ headers.Whole header size → header ≤ size → (header ≡ length (u ++ byte ∷ []) → size ≤ limit) → Fits limit (u ++ byte ∷ []) size
fits_by limit u byte header size headers.Short e short whole above may =
    (let ends : header ≡ length (u ++ byte ∷ []) = ends_header u byte header size e whole in
    record { within = may ends; there = omega arith })
fits_by limit u byte header size headers.Lost e short whole above may = absurd short
fits_by limit u byte header size (headers.Whole header' size') e short whole above may =
    (let stays : fixed_header_of (u ++ byte ∷ []) ≡ headers.Whole header' size' = whole_stays u (byte ∷ []) header' size' e in
    let one : headers.Whole header' size' ≡ headers.Whole header size = sym stays ∙ whole in
    let same : size' ≡ size = cc in
    let longer : length (u ++ byte ∷ []) ≡ length u + 1 = length-append u (byte ∷ []) in
    record { within = omega (arith, short.1, same); there = omega (arith, short.0, same, longer) })

-- at most, and not equal
below : (n size : ℕ) → n ≤ size → (size ≡ n → ⊥) → n < size
below n size up other =
    elim (size == n) as (λ b. (size == n) ≡ b → n < size) [
      | true ↦ λ e. absurd (other (eqb-true size n e))
      | false ↦ λ e. (let apart : size ≡ n → ⊥ = other in omega (arith, apart, up))
    ] refl

-- A byte with which a fixed header is whole, and gives no size over the limit, is its packet's last if the packet has no more bytes, ..
pub ends_byte : (limit : ℕ) (u : List ℕ) (byte header size : ℕ) → IsShort limit u (fixed_header_of u) → fixed_header_of (u ++ byte ∷ []) ≡ headers.Whole header size
    → 2 ≤ header → header ≤ size → size ≤ header + 268435455 → (header ≡ length (u ++ byte ∷ []) → size ≤ limit) → size ≡ length (u ++ byte ∷ []) → IsByteStep limit u byte (byte_steps.Ends header)
ends_byte limit u byte header size short whole two above fits may all =
    let known : Fits limit (u ++ byte ∷ []) size = fits_by limit u byte header size (fixed_header_of u) refl short whole above may in
    let longer : length (u ++ byte ∷ []) ≡ length u + 1 = length-append u (byte ∷ []) in
    (omega (arith, longer, two, above, all), whole ∙ ap (headers.Whole header) all, omega (arith, fits, all), omega (arith, known.within, all))

-- .. and else more of it is to come.
pub goes_byte : (limit : ℕ) (u : List ℕ) (byte header size : ℕ) → IsShort limit u (fixed_header_of u) → fixed_header_of (u ++ byte ∷ []) ≡ headers.Whole header size
    → header ≤ size → (header ≡ length (u ++ byte ∷ []) → size ≤ limit) → (size ≡ length (u ++ byte ∷ []) → ⊥) → IsByteStep limit u byte byte_steps.GoesOn
goes_byte limit u byte header size short whole above may lacks =
    let known : Fits limit (u ++ byte ∷ []) size = fits_by limit u byte header size (fixed_header_of u) refl short whole above may in
    let both : (length (u ++ byte ∷ []) < size) × (size ≤ limit) = (below (length (u ++ byte ∷ [])) size known.there lacks, known.within) in
    subst (IsShort limit (u ++ byte ∷ [])) (sym whole) both

module _ {S : Type 0} (agrees : S → List Placed → Type 0) (declines : S → S → List Placed → Refusal → Type 0) (limit : ℕ) (context : ContextInMemory) (at : ℕ) (c : Connections) (u : List ℕ) (byte : ℕ) where
  -- the direction before the byte
  abbrev before : Flow
  before = flow_of at (going_on u) c

  -- What the byte comes to with which the direction is lost, and where it stops.
  abbrev lost_state : StreamState
  lost_state = record { unfinished = []; lost = true }

  lost_after_bytes : is_lost (u ++ byte ∷ []) ≡ true → flow_after_bytes (body_context context) before (byte ∷ []) ≡ flow_of (at + 1) lost_state (connections_with context.server c (item_event context.direction lost))
  lost_after_bytes l = loses-after (body_context context) before u byte refl l ∙ flow_then context (at + 1) lost_state c (Some lost)

  lost_events : is_lost (u ++ byte ∷ []) ≡ true → flow_events (body_context context) before (byte ∷ []) ≡ next_placed c context.in_record (item_event context.direction lost) ∷ []
  lost_events l = ap (λ (o : Option Placed). put o []) (loses-placed (body_context context) before u byte refl l)

  lost_met : is_lost (u ++ byte ∷ []) ≡ true → flow_refused limit (body_context context) before (byte ∷ []) ≡ event_refusal at context.server c (item_event context.direction lost)
  lost_met l = refused-one limit (body_context context) before byte ∙ loses-refusal limit (body_context context) before u byte refl l

  pub lost_comes : {A : Type 0} (r : Result A Refusal) (c' : Connections) (old new : S) → fixed_header_of (u ++ byte ∷ []) ≡ headers.Lost
      → OnOk r (event_refusal at context.server c (item_event context.direction lost) ≡ None) → OnOk r (c' ≡ connections_with context.server c (item_event context.direction lost))
      → ((earlier : List Placed) → agrees old earlier → AreEvents (next_placed c context.in_record (item_event context.direction lost) ∷ earlier) → OnOk r (agrees new (next_placed c context.in_record (item_event context.direction lost) ∷ earlier)))
      → OnOk r (FlowComes agrees limit (body_context context) before (flow_of (at + 1) lost_state c') (byte ∷ []) old new)
  lost_comes (Err refusal) c' old new gone met kept emitted = tt
  lost_comes (Ok x) c' old new gone met kept emitted =
      (let l : is_lost (u ++ byte ∷ []) ≡ true = header_lost (u ++ byte ∷ []) gone in
      let same : (earlier : List Placed) → flow_events (body_context context) before (byte ∷ []) ++ earlier ≡ next_placed c context.in_record (item_event context.direction lost) ∷ earlier
      = λ earlier. ap (λ (completed : List Placed). completed ++ earlier) (lost_events l) in
      record {
        unrefused = lost_met l ∙ met;
        kept = lost_after_bytes l ∙ ap (λ (k : Connections). flow_of (at + 1) lost_state k) (sym kept);
        emitted = λ earlier was are. subst (agrees new) (sym (same earlier)) (emitted earlier was (subst AreEvents (same earlier) are));
      })

  pub lost_stops : {A : Type 0} (r : Result A Refusal) (old new : S) → fixed_header_of (u ++ byte ∷ []) ≡ headers.Lost
      → IfErr r (λ refusal. NotEmitted declines at (event_refusal at context.server c (item_event context.direction lost)) (next_placed c context.in_record (item_event context.direction lost) ∷ []) old new refusal)
      → IfErr r (λ refusal. FlowStops declines limit (body_context context) before (byte ∷ []) old new refusal)
  lost_stops (Ok x) old new gone unemitted = tt
  lost_stops (Err refusal) old new gone unemitted =
      (let l : is_lost (u ++ byte ∷ []) ≡ true = header_lost (u ++ byte ∷ []) gone in
      let here : at ≡ at + length {A = ℕ} [] = omega arith in
      record {
        taken = [];
        byte = byte;
        later = [];
        is = refl;
        unrefused = refl;
        completes_none = refl;
        why = subst (λ (n : ℕ). FlowWhy declines n (so_far_in (going_on u) byte) (flow_refused limit (body_context context) before (byte ∷ [])) (flow_events (body_context context) before (byte ∷ [])) old new refusal) here
            (why_by (so_far_in (going_on u) byte) (flow_refused limit (body_context context) before (byte ∷ [])) (flow_events (body_context context) before (byte ∷ [])) (lost_met l) (lost_events l) unemitted);
      })
    where
      why_by : (so_far : List ℕ) (met : Option Refusal) (completed : List Placed) → met ≡ event_refusal at context.server c (item_event context.direction lost) → completed ≡ next_placed c context.in_record (item_event context.direction lost) ∷ []
          → NotEmitted declines at (event_refusal at context.server c (item_event context.direction lost)) (next_placed c context.in_record (item_event context.direction lost) ∷ []) old new refusal → FlowWhy declines at so_far met completed old new refusal
      why_by so_far met completed same one (inl x) = inl (same ∙ x.0, x.1)
      why_by so_far met completed same one (inr x) = inr (inr (same ∙ x.0, ap length one, subst (λ (l : List Placed). RefusedBySink declines at l old new refusal) (sym one) x.1))

-- What is kept after a packet's last byte, or after the one that loses the direction: nothing.
pub sound_nothing : {A : Type 0} (r : Result A Refusal) (limit : ℕ) (state : StreamState) (gone : Bool) → OnOk r (state ≡ record { unfinished = []; lost = gone }) → OnOk r (IsUnfinished limit state)
sound_nothing (Err refusal) limit state gone e = tt
sound_nothing (Ok x) limit state gone e = subst (IsUnfinished limit) (sym e) (nothing_unfinished limit gone)

-- What applies to one half applies to the one that it is.
pub kept_to : {S A : Type 0} (r : Result A Refusal) (agrees : S → List Placed → Type 0) (limit : ℕ) (context : BodyContext) (f : Flow) (at : ℕ) (state state' : StreamState) (c : Connections) (bytes : List ℕ) (old new : S)
    → OnOk r (state' ≡ state) → OnOk r (FlowComes agrees limit context f (flow_of at state c) bytes old new) → OnOk r (FlowComes agrees limit context f (flow_of at state' c) bytes old new)
kept_to (Err refusal) agrees limit context f at state state' c bytes old new same comes = tt
kept_to (Ok x) agrees limit context f at state state' c bytes old new same comes = subst (λ (h : StreamState). FlowComes agrees limit context f (flow_of at h c) bytes old new) (sym same) comes

-- What always is so is so where a call succeeds.
pub always : {A : Type 0} (r : Result A Refusal) (state state' : StreamState) → state ≡ state' → OnOk r (state ≡ state')
always (Ok x) state state' e = e
always (Err refusal) state state' e = tt

-- A direction that isn't lost goes on with its bytes.
pub still_there : (state : StreamState) → state.lost ≡ false → going_on state.unfinished ≡ state
still_there state there = ap (λ (b : Bool). record { unfinished = state.unfinished; lost = b }) (sym there)

-- What holds of a refusal holds of one that can only be it.
pub if_named : {A : Type 0} (r : Result A Refusal) (P : Refusal → Type 0) (refusal : Refusal) → IfErr r (λ met. met ≡ refusal) → P refusal → IfErr r P
if_named (Ok x) P refusal named p = tt
if_named (Err met) P refusal named p = subst P (sym named) p

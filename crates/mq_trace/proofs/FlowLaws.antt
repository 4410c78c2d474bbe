-- What several bytes of one direction do, within the body of a record: byte by byte, and a whole packet at a time.
use Rattle.std.proofs.Common.{◌≡◌, ℕ, ◌+◌, ◌<◌, ◌≤◌, Bool, true, false, cond, ◌&&◌, ◌⊎◌, inl, inr, List, [], ◌∷◌, ◌++◌, length, Option, Some, None, refl, sym, ◌∙◌, ap, subst, arith, append_assoc, length-append}
use Rattle.std.specs.Prelude.{◌==◌, is_some, nat_le, option_map}
use Rattle.std.proofs.lemmas.List.{append-nil}
use Rattle.std.proofs.lemmas.Bool.{le-ltb, lt-ltb, ne_eqb, eq-eqb}
use Rattle.std.specs.Option.{option_or}
use Rattle.mq_packet.specs.declared.header.FixedHeader.{FixedHeader}
use Rattle.mq_packet.specs.declared.header.FixedHeader.TheVariants as headers
use Rattle.mq_packet.specs.Stream.{fixed_header_of, frame_size, is_lost}
use Rattle.mq_packet.proofs.Exports.{whole_stays, lost_stays, short_before, lost_header, lost_no_frame, short_no_frame, no_frame_yet, frame_from_header, header_from_frame, frame_stood}
use Rattle.mq_log.specs.declared.refusal.Refusal.{Refusal}
use Rattle.mq_log.specs.declared.refusal.Refusal.TheVariants as refusals
use Rattle.mq_log.specs.Events.{lost, Item, Event, item_at, item_read, read_frame}
use Rattle.mq_log.specs.Refusals.{first_that_applies, is_too_large, is_other_version}
use Rattle.mq_log.specs.Context.{StreamState, so_far_in, state_after, put}
use Rattle.mq_log.specs.Flows.{BodyContext, Flow, item_event, flows_too_early, flow_event, flow_refusal, flow_placed, flow_placed_with, flow_with, flow_after, flow_after_bytes, flow_refused, flow_events}

-- Any two parts of some bytes give what the bytes leave after them, refuse and complete.
pub flow_after_bytes-append : (context : BodyContext) (f : Flow) (a b : List ℕ) → flow_after_bytes context f (a ++ b) ≡ flow_after_bytes context (flow_after_bytes context f a) b
flow_after_bytes-append context f [] b = refl
flow_after_bytes-append context f (byte ∷ a) b = flow_after_bytes-append context (flow_after context f byte) a b

option_or_assoc : {A : Type 0} (a b c : Option A) → option_or a (option_or b c) ≡ option_or (option_or a b) c
option_or_assoc (Some x) b c = refl
option_or_assoc None b c = refl

pub refused-append : (limit : ℕ) (context : BodyContext) (f : Flow) (a b : List ℕ) → flow_refused limit context f (a ++ b) ≡ option_or (flow_refused limit context f a) (flow_refused limit context (flow_after_bytes context f a) b)
refused-append limit context f [] b = refl
refused-append limit context f (byte ∷ a) b =
    ap (option_or (flow_refusal limit context f byte)) (refused-append limit context (flow_after context f byte) a b)
    ∙ option_or_assoc (flow_refusal limit context f byte) (flow_refused limit context (flow_after context f byte) a) (flow_refused limit context (flow_after_bytes context (flow_after context f byte) a) b)

pub events-append : (context : BodyContext) (f : Flow) (a b : List ℕ) → flow_events context f (a ++ b) ≡ flow_events context (flow_after_bytes context f a) b ++ flow_events context f a
events-append context f [] b = sym (append-nil (flow_events context f b))
events-append context f (byte ∷ a) b =
    ap (λ completed. completed ++ put (flow_placed context f byte) []) (events-append context (flow_after context f byte) a b)
    ∙ append_assoc (flow_events context (flow_after_bytes context (flow_after context f byte) a) b) (flow_events context (flow_after context f byte) a) (put (flow_placed context f byte) [])

-- the refusal of a byte, from its packet so far and its event
abbrev refusal_with : ℕ → BodyContext → Flow → List ℕ → Option Event → Option Refusal
refusal_with limit context f so_far event = first_that_applies (
    (is_too_large limit so_far (fixed_header_of so_far), refusals.TooLarge f.at)
    ∷ (is_some (frame_size so_far) && is_other_version (read_frame so_far), refusals.OtherVersion f.at)
    ∷ (flows_too_early context f event, refusals.TooManyEarly f.at)
    ∷ (is_some event && nat_le 4294967295 f.events, refusals.TooLong f.at)
    ∷ [])

event_is : (context : BodyContext) (f : Flow) (byte : ℕ) (so_far : List ℕ) (item : Option Item) → so_far_in f.state byte ≡ so_far → item_at so_far ≡ item → flow_event context f byte ≡ option_map (item_event context.direction) item
unfolding flow_event
event_is context f byte so_far item e i = ap (λ t. option_map (item_event context.direction) (item_at t)) e ∙ ap (option_map (item_event context.direction)) i

refusal_is : (limit : ℕ) (context : BodyContext) (f : Flow) (byte : ℕ) (so_far : List ℕ) (event : Option Event) → so_far_in f.state byte ≡ so_far → flow_event context f byte ≡ event
    → flow_refusal limit context f byte ≡ refusal_with limit context f so_far event
unfolding flow_refusal
refusal_is limit context f byte so_far event e i = ap (λ t. refusal_with limit context f t (flow_event context f byte)) e ∙ ap (refusal_with limit context f so_far) i

after_is : (context : BodyContext) (f : Flow) (byte : ℕ) (state : StreamState) (event : Option Event) → state_after f.state byte ≡ state → flow_event context f byte ≡ event
    → flow_after context f byte ≡ flow_with context (record f { at = f.at + 1; state = state }) event
unfolding flow_after
after_is context f byte state event h i =
    ap (λ x. flow_with context (record f { at = f.at + 1; state = x }) (flow_event context f byte)) h ∙ ap (flow_with context (record f { at = f.at + 1; state = state })) i

placed_is : (context : BodyContext) (f : Flow) (byte : ℕ) (event : Option Event) → flow_event context f byte ≡ event → flow_placed context f byte ≡ flow_placed_with context f event
unfolding flow_placed
placed_is context f byte event i = ap (flow_placed_with context f) i

-- What bytes do that complete nothing and aren't refused.
pub record IsQuiet (limit : ℕ) (context : BodyContext) (f : Flow) (bytes : List ℕ) (state : StreamState) : Type 0 where
  pub refused : flow_refused limit context f bytes ≡ None
  pub completed : flow_events context f bytes ≡ []
  pub after_bytes : flow_after_bytes context f bytes ≡ record f { at = f.at + length bytes; state = state }

-- what one byte does that completes nothing and isn't refused
record IsQuietByte (limit : ℕ) (context : BodyContext) (f : Flow) (byte : ℕ) (state : StreamState) : Type 0 where
  refused : flow_refusal limit context f byte ≡ None
  placed : flow_placed context f byte ≡ None
  after_bytes : flow_after context f byte ≡ record f { at = f.at + 1; state = state }

quiet_none : (limit : ℕ) (context : BodyContext) (f : Flow) (state : StreamState) → f.state ≡ state → IsQuiet limit context f [] state
quiet_none limit context f state e = record { refused = refl; completed = refl; after_bytes = ap (λ x. record f { state = x }) e ∙ ap (λ n. record f { at = n; state = state }) (let same : f.at ≡ f.at + length {A = ℕ} [] = omega arith in same) }

quiet_more : (limit : ℕ) (context : BodyContext) (f : Flow) (byte : ℕ) (bytes : List ℕ) (between state : StreamState)
    → IsQuietByte limit context f byte between → IsQuiet limit context (record f { at = f.at + 1; state = between }) bytes state → IsQuiet limit context f (byte ∷ bytes) state
quiet_more limit context f byte bytes between state one more =
    let counted : f.at + 1 + length bytes ≡ f.at + length (byte ∷ bytes) = omega arith in
    record {
      refused = ap (λ o. option_or o (flow_refused limit context (flow_after context f byte) bytes)) one.refused ∙ ap (λ g. flow_refused limit context g bytes) one.after_bytes ∙ more.refused;
      completed = ap (λ g. flow_events context g bytes ++ put (flow_placed context f byte) []) one.after_bytes
          ∙ ap (λ placed. flow_events context (record f { at = f.at + 1; state = between }) bytes ++ put placed []) one.placed
          ∙ append-nil (flow_events context (record f { at = f.at + 1; state = between }) bytes) ∙ more.completed;
      after_bytes = ap (λ g. flow_after_bytes context g bytes) one.after_bytes ∙ more.after_bytes ∙ ap (λ n. record f { at = n; state = state }) counted;
    }

pub nothing_item : item_at [] ≡ None
unfolding item_at is_lost frame_size fixed_header_of
nothing_item = refl

nothing_refused : (limit : ℕ) (context : BodyContext) (f : Flow) → refusal_with limit context f [] None ≡ None
unfolding fixed_header_of frame_size
nothing_refused limit context f = refl

lost_after : (state : StreamState) (byte : ℕ) → state.lost ≡ true → state_after state byte ≡ state
unfolding state_after
lost_after state byte e = ap (λ lost. cond lost state (cond (is_lost (state.unfinished ++ byte ∷ [])) (record { unfinished = []; lost = true })
    (cond (is_some (frame_size (state.unfinished ++ byte ∷ []))) (record { unfinished = []; lost = false }) (record { unfinished = state.unfinished ++ byte ∷ []; lost = false })))) e

lost_byte : (limit : ℕ) (context : BodyContext) (f : Flow) (byte : ℕ) → f.state.lost ≡ true → IsQuietByte limit context f byte f.state
lost_byte limit context f byte e =
    let nothing : so_far_in f.state byte ≡ [] = ap (λ lost. cond lost [] (f.state.unfinished ++ byte ∷ [])) e in
    let none : flow_event context f byte ≡ None = event_is context f byte [] None nothing nothing_item in
    record {
      refused = refusal_is limit context f byte [] None nothing none ∙ nothing_refused limit context f;
      placed = placed_is context f byte None none;
      after_bytes = after_is context f byte f.state None (lost_after f.state byte e) none;
    }

lost_quiet : (limit : ℕ) (context : BodyContext) (f : Flow) (bytes : List ℕ) → f.state.lost ≡ true → IsQuiet limit context f bytes f.state
lost_quiet limit context f [] e = quiet_none limit context f f.state refl
lost_quiet limit context f (byte ∷ bytes) e = quiet_more limit context f byte bytes f.state f.state (lost_byte limit context f byte e) (lost_quiet limit context (record f { at = f.at + 1 }) bytes e)

-- Bytes of a direction that is lost do nothing.
pub lost-refused : (limit : ℕ) (context : BodyContext) (f : Flow) (bytes : List ℕ) → f.state.lost ≡ true → flow_refused limit context f bytes ≡ None
lost-refused limit context f bytes e = (lost_quiet limit context f bytes e).refused

pub lost-events : (context : BodyContext) (f : Flow) (bytes : List ℕ) → f.state.lost ≡ true → flow_events context f bytes ≡ []
lost-events context f bytes e = (lost_quiet 0 context f bytes e).completed

pub lost-after : (context : BodyContext) (f : Flow) (bytes : List ℕ) → f.state.lost ≡ true → flow_after_bytes context f bytes ≡ record f { at = f.at + length bytes }
lost-after context f bytes e = (lost_quiet 0 context f bytes e).after_bytes

-- a direction that isn't lost, with these bytes of an unfinished packet
abbrev going_on : List ℕ → StreamState
going_on unfinished = record { unfinished = unfinished; lost = false }

-- what the bytes so far of a packet complete, and what they leave of their direction, by what stands at their front
pub item_by : (so_far : List ℕ) (l : Bool) (size : Option ℕ) → is_lost so_far ≡ l → frame_size so_far ≡ size
    → item_at so_far ≡ cond l (Some lost) (cond (is_some size) (item_read so_far (read_frame so_far)) None)
unfolding item_at
item_by so_far l size e s =
    ap (λ b. cond b (Some lost) (cond (is_some (frame_size so_far)) (item_read so_far (read_frame so_far)) None)) e
    ∙ ap (λ o. cond l (Some lost) (cond (is_some o) (item_read so_far (read_frame so_far)) None)) s

state_by_front : (u : List ℕ) (byte : ℕ) (l : Bool) (size : Option ℕ) → is_lost (u ++ byte ∷ []) ≡ l → frame_size (u ++ byte ∷ []) ≡ size
    → state_after (going_on u) byte ≡ cond l (record { unfinished = []; lost = true }) (cond (is_some size) (going_on []) (going_on (u ++ byte ∷ [])))
unfolding state_after
state_by_front u byte l size e s =
    ap (λ b. cond {A = StreamState} b (record { unfinished = []; lost = true }) (cond (is_some (frame_size (u ++ byte ∷ []))) (going_on []) (going_on (u ++ byte ∷ [])))) e
    ∙ ap (λ o. cond {A = StreamState} l (record { unfinished = []; lost = true }) (cond (is_some o) (going_on []) (going_on (u ++ byte ∷ [])))) s

open_refused : (limit : ℕ) (context : BodyContext) (f : Flow) (so_far : List ℕ) → frame_size so_far ≡ None → is_too_large limit so_far (fixed_header_of so_far) ≡ false → refusal_with limit context f so_far None ≡ None
open_refused limit context f so_far s large = rw (s, large) refl

open_byte : (limit : ℕ) (context : BodyContext) (f : Flow) (u : List ℕ) (byte : ℕ) → f.state ≡ going_on u
    → is_lost (u ++ byte ∷ []) ≡ false → frame_size (u ++ byte ∷ []) ≡ None → is_too_large limit (u ++ byte ∷ []) (fixed_header_of (u ++ byte ∷ [])) ≡ false
    → IsQuietByte limit context f byte (going_on (u ++ byte ∷ []))
open_byte limit context f u byte e l s large =
    let so_far : so_far_in f.state byte ≡ u ++ byte ∷ [] = ap (λ state. so_far_in state byte) e in
    let none : flow_event context f byte ≡ None = event_is context f byte (u ++ byte ∷ []) None so_far (item_by (u ++ byte ∷ []) false None l s) in
    record {
      refused = refusal_is limit context f byte (u ++ byte ∷ []) None so_far none ∙ open_refused limit context f (u ++ byte ∷ []) s large;
      placed = placed_is context f byte None none;
      after_bytes = after_is context f byte (going_on (u ++ byte ∷ [])) None (ap (λ state. state_after state byte) e ∙ state_by_front u byte false None l s) none;
    }

pub not_lost : (a : List ℕ) (header : FixedHeader) → fixed_header_of a ≡ header → (header ≡ headers.Lost → ⊥) → is_lost a ≡ false
not_lost a header e other =
    elim (is_lost a) as (λ l. is_lost a ≡ l → l ≡ false) [
      | true ↦ λ l. absurd (other (sym e ∙ lost_header a l))
      | false ↦ λ l. refl
    ] refl

short_byte : (limit : ℕ) (context : BodyContext) (f : Flow) (u : List ℕ) (byte : ℕ) → f.state ≡ going_on u → fixed_header_of (u ++ byte ∷ []) ≡ headers.Short
    → IsQuietByte limit context f byte (going_on (u ++ byte ∷ []))
short_byte limit context f u byte e short =
    open_byte limit context f u byte e (not_lost (u ++ byte ∷ []) headers.Short short (λ same. (cc))) (short_no_frame (u ++ byte ∷ []) short) (ap (is_too_large limit (u ++ byte ∷ [])) short)

-- The header ended before these bytes, or the size is within the limit.
small : (limit : ℕ) (u : List ℕ) (byte header size : ℕ) → (size ≤ limit) ⊎ (header ≤ length u) → is_too_large limit (u ++ byte ∷ []) (headers.Whole header size) ≡ false
small limit u byte header size (inl within) = rw (le-ltb limit size within) (and_false (header == length (u ++ byte ∷ [])))
  where
    and_false : (b : Bool) → (b && false) ≡ false
    and_false true = refl
    and_false false = refl
small limit u byte header size (inr before) =
    let more : length (u ++ byte ∷ []) ≡ length u + 1 = length-append u (byte ∷ []) in
    rw (ne_eqb header (length (u ++ byte ∷ [])) (λ same. (omega arith))) refl

header_byte : (limit : ℕ) (context : BodyContext) (f : Flow) (u : List ℕ) (byte header size : ℕ) → f.state ≡ going_on u → fixed_header_of (u ++ byte ∷ []) ≡ headers.Whole header size
    → length (u ++ byte ∷ []) < size → (size ≤ limit) ⊎ (header ≤ length u) → IsQuietByte limit context f byte (going_on (u ++ byte ∷ []))
header_byte limit context f u byte header size e whole less may =
    open_byte limit context f u byte e
    (not_lost (u ++ byte ∷ []) (headers.Whole header size) whole (λ same. (cc)))
    (no_frame_yet (u ++ byte ∷ []) header size whole less)
    (ap (is_too_large limit (u ++ byte ∷ [])) whole ∙ small limit u byte header size may)

-- a byte of a packet whose header may be whole, where more bytes are after it
unfinished_byte : (limit : ℕ) (context : BodyContext) (f : Flow) (u : List ℕ) (byte : ℕ) (more : List ℕ) (header size : ℕ) → f.state ≡ going_on u
    → fixed_header_of ((u ++ byte ∷ []) ++ more) ≡ headers.Whole header size → length ((u ++ byte ∷ []) ++ more) < size → (size ≤ limit) ⊎ (header ≤ length u)
    → IsQuietByte limit context f byte (going_on (u ++ byte ∷ []))
unfinished_byte limit context f u byte more header size e whole less may = emitted (fixed_header_of (u ++ byte ∷ [])) refl
  where
    emitted : (front : FixedHeader) → fixed_header_of (u ++ byte ∷ []) ≡ front → IsQuietByte limit context f byte (going_on (u ++ byte ∷ []))
    emitted headers.Short short = short_byte limit context f u byte e short
    emitted headers.Lost gone = let stays : fixed_header_of ((u ++ byte ∷ []) ++ more) ≡ headers.Lost = lost_stays (u ++ byte ∷ []) more gone in absurd (cc)
    emitted (headers.Whole header' size') known =
        let stays : fixed_header_of ((u ++ byte ∷ []) ++ more) ≡ headers.Whole header' size' = whole_stays (u ++ byte ∷ []) more header' size' known in
        let same : headers.Whole header' size' ≡ headers.Whole header size = sym stays ∙ whole in
        let longer : length ((u ++ byte ∷ []) ++ more) ≡ length (u ++ byte ∷ []) + length more = length-append (u ++ byte ∷ []) more in
        header_byte limit context f u byte header size e (known ∙ same) (omega arith) may

at_end : (f : Flow) (u : List ℕ) → f.state ≡ going_on u → f.state ≡ going_on (u ++ [])
at_end f u e = e ∙ ap going_on (sym (append-nil u))

moved : (limit : ℕ) (context : BodyContext) (f : Flow) (u : List ℕ) (byte : ℕ) (bytes : List ℕ) → IsQuiet limit context f (byte ∷ bytes) (going_on ((u ++ byte ∷ []) ++ bytes)) → IsQuiet limit context f (byte ∷ bytes) (going_on (u ++ byte ∷ bytes))
moved limit context f u byte bytes quiet = subst (λ t. IsQuiet limit context f (byte ∷ bytes) (going_on t)) (append_assoc u (byte ∷ []) bytes) quiet

weaker : (limit size header : ℕ) (u : List ℕ) (byte : ℕ) → (size ≤ limit) ⊎ (header ≤ length u) → (size ≤ limit) ⊎ (header ≤ length (u ++ byte ∷ []))
weaker limit size header u byte (inl within) = inl within
weaker limit size header u byte (inr before) = inr (let more : length (u ++ byte ∷ []) ≡ length u + 1 = length-append u (byte ∷ []) in omega arith)

unfinished_quiet : (limit : ℕ) (context : BodyContext) (f : Flow) (u bytes : List ℕ) (header size : ℕ) → f.state ≡ going_on u
    → fixed_header_of (u ++ bytes) ≡ headers.Whole header size → length (u ++ bytes) < size → (size ≤ limit) ⊎ (header ≤ length u)
    → IsQuiet limit context f bytes (going_on (u ++ bytes))
unfinished_quiet limit context f u [] header size e whole less may = quiet_none limit context f (going_on (u ++ [])) (at_end f u e)
unfinished_quiet limit context f u (byte ∷ bytes) header size e whole less may =
    let joined : (u ++ byte ∷ []) ++ bytes ≡ u ++ byte ∷ bytes = append_assoc u (byte ∷ []) bytes in
    let whole' : fixed_header_of ((u ++ byte ∷ []) ++ bytes) ≡ headers.Whole header size = ap fixed_header_of joined ∙ whole in
    let counted : length ((u ++ byte ∷ []) ++ bytes) ≡ length (u ++ byte ∷ bytes) = ap length joined in
    let less' : length ((u ++ byte ∷ []) ++ bytes) < size = omega arith in
    moved limit context f u byte bytes
    (quiet_more limit context f byte bytes (going_on (u ++ byte ∷ [])) (going_on ((u ++ byte ∷ []) ++ bytes))
    (unfinished_byte limit context f u byte bytes header size e whole' less' may)
    (unfinished_quiet limit context (record f { at = f.at + 1; state = going_on (u ++ byte ∷ []) }) (u ++ byte ∷ []) bytes header size refl whole' less' (weaker limit size header u byte may)))

short_quiet : (limit : ℕ) (context : BodyContext) (f : Flow) (u bytes : List ℕ) → f.state ≡ going_on u → fixed_header_of (u ++ bytes) ≡ headers.Short → IsQuiet limit context f bytes (going_on (u ++ bytes))
short_quiet limit context f u [] e short = quiet_none limit context f (going_on (u ++ [])) (at_end f u e)
short_quiet limit context f u (byte ∷ bytes) e short =
    let short' : fixed_header_of ((u ++ byte ∷ []) ++ bytes) ≡ headers.Short = ap fixed_header_of (append_assoc u (byte ∷ []) bytes) ∙ short in
    moved limit context f u byte bytes
    (quiet_more limit context f byte bytes (going_on (u ++ byte ∷ [])) (going_on ((u ++ byte ∷ []) ++ bytes))
    (short_byte limit context f u byte e (short_before (u ++ byte ∷ []) bytes short'))
    (short_quiet limit context (record f { at = f.at + 1; state = going_on (u ++ byte ∷ []) }) (u ++ byte ∷ []) bytes refl short'))

-- Bytes of a packet that isn't whole with them do nothing but stay, unless its size, which one of them shows, is over the limit.
pub quiet-refused : (limit : ℕ) (context : BodyContext) (f : Flow) (u bytes : List ℕ) (header size : ℕ) → f.state ≡ record { unfinished = u; lost = false }
    → fixed_header_of (u ++ bytes) ≡ headers.Whole header size → length (u ++ bytes) < size → (size ≤ limit) ⊎ (header ≤ length u)
    → flow_refused limit context f bytes ≡ None
quiet-refused limit context f u bytes header size e whole less may = (unfinished_quiet limit context f u bytes header size e whole less may).refused

pub quiet-events : (context : BodyContext) (f : Flow) (u bytes : List ℕ) (header size : ℕ) → f.state ≡ record { unfinished = u; lost = false }
    → fixed_header_of (u ++ bytes) ≡ headers.Whole header size → length (u ++ bytes) < size
    → flow_events context f bytes ≡ []
quiet-events context f u bytes header size e whole less = (unfinished_quiet size context f u bytes header size e whole less (inl (omega arith))).completed

pub quiet-after : (context : BodyContext) (f : Flow) (u bytes : List ℕ) (header size : ℕ) → f.state ≡ record { unfinished = u; lost = false }
    → fixed_header_of (u ++ bytes) ≡ headers.Whole header size → length (u ++ bytes) < size
    → flow_after_bytes context f bytes ≡ record f { at = f.at + length bytes; state = record { unfinished = u ++ bytes; lost = false } }
quiet-after context f u bytes header size e whole less = (unfinished_quiet size context f u bytes header size e whole less (inl (omega arith))).after_bytes

-- Bytes that don't yet show their packet's size aren't refused, and complete nothing.
pub short-refused : (limit : ℕ) (context : BodyContext) (f : Flow) (u bytes : List ℕ) → f.state ≡ record { unfinished = u; lost = false } → fixed_header_of (u ++ bytes) ≡ headers.Short
    → flow_refused limit context f bytes ≡ None
short-refused limit context f u bytes e short = (short_quiet limit context f u bytes e short).refused

pub short-events : (context : BodyContext) (f : Flow) (u bytes : List ℕ) → f.state ≡ record { unfinished = u; lost = false } → fixed_header_of (u ++ bytes) ≡ headers.Short
    → flow_events context f bytes ≡ []
short-events context f u bytes e short = (short_quiet 0 context f u bytes e short).completed

pub short-after : (context : BodyContext) (f : Flow) (u bytes : List ℕ) → f.state ≡ record { unfinished = u; lost = false } → fixed_header_of (u ++ bytes) ≡ headers.Short
    → flow_after_bytes context f bytes ≡ record f { at = f.at + length bytes; state = record { unfinished = u ++ bytes; lost = false } }
short-after context f u bytes e short = (short_quiet 0 context f u bytes e short).after_bytes

lost_event : (context : BodyContext) (f : Flow) (u : List ℕ) (byte : ℕ) → f.state ≡ going_on u → is_lost (u ++ byte ∷ []) ≡ true → flow_event context f byte ≡ Some (item_event context.direction lost)
lost_event context f u byte e l =
    event_is context f byte (u ++ byte ∷ []) (Some lost) (ap (λ state. so_far_in state byte) e) (item_by (u ++ byte ∷ []) true None l (lost_no_frame (u ++ byte ∷ []) l))

-- Where it turns out with a byte that its packet has no size, the direction is lost.
pub loses-event : (context : BodyContext) (f : Flow) (u : List ℕ) (byte : ℕ) → f.state ≡ record { unfinished = u; lost = false } → is_lost (u ++ byte ∷ []) ≡ true
    → flow_event context f byte ≡ Some (item_event context.direction lost)
loses-event context f u byte e l = lost_event context f u byte e l

pub loses-refusal : (limit : ℕ) (context : BodyContext) (f : Flow) (u : List ℕ) (byte : ℕ) → f.state ≡ record { unfinished = u; lost = false } → is_lost (u ++ byte ∷ []) ≡ true
    → flow_refusal limit context f byte ≡ first_that_applies (
    (flows_too_early context f (Some (item_event context.direction lost)), refusals.TooManyEarly f.at)
    ∷ (nat_le 4294967295 f.events, refusals.TooLong f.at)
    ∷ [])
loses-refusal limit context f u byte e l =
    refusal_is limit context f byte (u ++ byte ∷ []) (Some (item_event context.direction lost)) (ap (λ state. so_far_in state byte) e) (lost_event context f u byte e l)
    ∙ rw (lost_header (u ++ byte ∷ []) l, lost_no_frame (u ++ byte ∷ []) l) refl

pub loses-after : (context : BodyContext) (f : Flow) (u : List ℕ) (byte : ℕ) → f.state ≡ record { unfinished = u; lost = false } → is_lost (u ++ byte ∷ []) ≡ true
    → flow_after context f byte ≡ flow_with context (record f { at = f.at + 1; state = record { unfinished = []; lost = true } }) (Some (item_event context.direction lost))
loses-after context f u byte e l =
    after_is context f byte (record { unfinished = []; lost = true }) (Some (item_event context.direction lost))
    (ap (λ state. state_after state byte) e ∙ state_by_front u byte true None l (lost_no_frame (u ++ byte ∷ []) l)) (lost_event context f u byte e l)

-- The byte that shows a size over the limit is refused.
pub large-refusal : (limit : ℕ) (context : BodyContext) (f : Flow) (u : List ℕ) (byte header size : ℕ) → f.state ≡ record { unfinished = u; lost = false }
    → fixed_header_of (u ++ byte ∷ []) ≡ headers.Whole header size → header ≡ length (u ++ byte ∷ []) → limit < size
    → flow_refusal limit context f byte ≡ Some (refusals.TooLarge f.at)
large-refusal limit context f u byte header size e whole ends over =
    refusal_is limit context f byte (u ++ byte ∷ []) (flow_event context f byte) (ap (λ state. so_far_in state byte) e) refl
    ∙ rw (whole, eq-eqb header (length (u ++ byte ∷ [])) ends, lt-ltb limit size over) refl

pub loses-placed : (context : BodyContext) (f : Flow) (u : List ℕ) (byte : ℕ) → f.state ≡ record { unfinished = u; lost = false } → is_lost (u ++ byte ∷ []) ≡ true
    → flow_placed context f byte ≡ flow_placed_with context f (Some (item_event context.direction lost))
loses-placed context f u byte e l = placed_is context f byte (Some (item_event context.direction lost)) (lost_event context f u byte e l)

-- One byte is refused as the only one of its list.
pub refused-one : (limit : ℕ) (context : BodyContext) (f : Flow) (byte : ℕ) → flow_refused limit context f (byte ∷ []) ≡ flow_refusal limit context f byte
refused-one limit context f byte = or_none (flow_refusal limit context f byte)
  where
    or_none : (o : Option Refusal) → option_or o None ≡ o
    or_none (Some refusal) = refl
    or_none None = refl

-- A header that more bytes than its packet's show is shown by its packet.
pub header_stood : (a c : List ℕ) (header size : ℕ) → fixed_header_of (a ++ c) ≡ headers.Whole header size → size ≤ length a → fixed_header_of a ≡ headers.Whole header size
header_stood a c header size e fit =
    let longer : length (a ++ c) ≡ length a + length c = length-append a c in
    let whole : frame_size (a ++ c) ≡ Some size = frame_from_header (a ++ c) header size e (omega arith) in
    let found : (header' : ℕ) × (fixed_header_of a ≡ headers.Whole header' size) × (size ≤ length a) = header_from_frame a size (frame_stood a c size whole fit) in
    let stays : fixed_header_of (a ++ c) ≡ headers.Whole found.0 size = whole_stays a c found.0 size found.1 in
    found.1 ∙ sym stays ∙ e

-- the event that a whole frame is
abbrev frame_event : BodyContext → List ℕ → Option Event
frame_event context frame = option_map (item_event context.direction) (item_read frame (read_frame frame))

-- the lines for a byte that completes a packet
abbrev frame_lines : BodyContext → Flow → List ℕ → Option Event → ℕ → Option Refusal
frame_lines context f frame event at = first_that_applies (
    (is_other_version (read_frame frame), refusals.OtherVersion at)
    ∷ (flows_too_early context f event, refusals.TooManyEarly at)
    ∷ (is_some event && nat_le 4294967295 f.events, refusals.TooLong at)
    ∷ [])

-- the last byte of a packet, of which these bytes came before it
module _ (context : BodyContext) (f : Flow) (t : List ℕ) (byte : ℕ) (e : f.state ≡ going_on t) (whole : frame_size (t ++ byte ∷ []) ≡ Some (length (t ++ byte ∷ []))) where
  last_lost : is_lost (t ++ byte ∷ []) ≡ false
  last_lost =
      elim (is_lost (t ++ byte ∷ [])) as (λ l. is_lost (t ++ byte ∷ []) ≡ l → l ≡ false) [
        | true ↦ λ l. let none : frame_size (t ++ byte ∷ []) ≡ None = lost_no_frame (t ++ byte ∷ []) l in absurd (cc)
        | false ↦ λ l. refl
      ] refl

  last_event : flow_event context f byte ≡ frame_event context (t ++ byte ∷ [])
  last_event =
      event_is context f byte (t ++ byte ∷ []) (item_read (t ++ byte ∷ []) (read_frame (t ++ byte ∷ [])))
      (ap (λ state. so_far_in state byte) e) (item_by (t ++ byte ∷ []) false (Some (length (t ++ byte ∷ []))) last_lost whole)

  last_after : flow_after context f byte ≡ flow_with context (record f { at = f.at + 1; state = going_on [] }) (frame_event context (t ++ byte ∷ []))
  last_after =
      after_is context f byte (going_on []) (frame_event context (t ++ byte ∷ []))
      (ap (λ state. state_after state byte) e ∙ state_by_front t byte false (Some (length (t ++ byte ∷ []))) last_lost whole) last_event

  last_refusal : (limit header size : ℕ) → fixed_header_of (t ++ byte ∷ []) ≡ headers.Whole header size → (size ≤ limit) ⊎ (header ≤ length t)
      → flow_refusal limit context f byte ≡ frame_lines context f (t ++ byte ∷ []) (frame_event context (t ++ byte ∷ [])) f.at
  last_refusal limit header size known may =
      let fits : is_too_large limit (t ++ byte ∷ []) (fixed_header_of (t ++ byte ∷ [])) ≡ false = ap (is_too_large limit (t ++ byte ∷ [])) known ∙ small limit t byte header size may in
      refusal_is limit context f byte (t ++ byte ∷ []) (frame_event context (t ++ byte ∷ [])) (ap (λ state. so_far_in state byte) e) last_event
      ∙ rw (fits, whole) refl

-- Bytes up to a packet's last one do nothing.
module _ (context : BodyContext) (f : Flow) (u p : List ℕ) (byte : ℕ) (e : f.state ≡ going_on u) (header size : ℕ) (known : fixed_header_of ((u ++ p) ++ byte ∷ []) ≡ headers.Whole header size)
    (all : size ≡ length ((u ++ p) ++ byte ∷ [])) where
  abbrev before : Flow
  before = record f { at = f.at + length p; state = going_on (u ++ p) }

  pub until_last : (limit : ℕ) → (size ≤ limit) ⊎ (header ≤ length u) → IsQuiet limit context f p (going_on (u ++ p))
  until_last limit may = emitted (fixed_header_of (u ++ p)) refl
    where
      emitted : (front : FixedHeader) → fixed_header_of (u ++ p) ≡ front → IsQuiet limit context f p (going_on (u ++ p))
      emitted headers.Short short = short_quiet limit context f u p e short
      emitted headers.Lost gone = let stays : fixed_header_of ((u ++ p) ++ byte ∷ []) ≡ headers.Lost = lost_stays (u ++ p) (byte ∷ []) gone in absurd (cc)
      emitted (headers.Whole header' size') there =
          let stays : fixed_header_of ((u ++ p) ++ byte ∷ []) ≡ headers.Whole header' size' = whole_stays (u ++ p) (byte ∷ []) header' size' there in
          let longer : length ((u ++ p) ++ byte ∷ []) ≡ length (u ++ p) + 1 = length-append (u ++ p) (byte ∷ []) in
          unfinished_quiet limit context f u p header size e (there ∙ sym stays ∙ known) (omega arith) may

  last_whole : frame_size ((u ++ p) ++ byte ∷ []) ≡ Some (length ((u ++ p) ++ byte ∷ []))
  last_whole = frame_from_header ((u ++ p) ++ byte ∷ []) header size known (omega arith) ∙ ap Some all

  still : (limit : ℕ) → (size ≤ limit) ⊎ (header ≤ length u) → (size ≤ limit) ⊎ (header ≤ length (u ++ p))
  still limit (inl within) = inl within
  still limit (inr before) = inr (let longer : length (u ++ p) ≡ length u + length p = length-append u p in omega arith)

  all_refused : (limit : ℕ) → (size ≤ limit) ⊎ (header ≤ length u)
      → flow_refused limit context f (p ++ byte ∷ []) ≡ frame_lines context f ((u ++ p) ++ byte ∷ []) (frame_event context ((u ++ p) ++ byte ∷ [])) (f.at + length p)
  all_refused limit may =
      let quiet : IsQuiet limit context f p (going_on (u ++ p)) = until_last limit may in
      refused-append limit context f p (byte ∷ [])
      ∙ ap (λ o. option_or o (flow_refused limit context (flow_after_bytes context f p) (byte ∷ []))) quiet.refused
      ∙ ap (λ g. flow_refused limit context g (byte ∷ [])) quiet.after_bytes
      ∙ refused-one limit context before byte
      ∙ last_refusal context before (u ++ p) byte refl last_whole limit header size known (still limit may)

  same_place : (event : Option Event) → flow_placed_with context before event ≡ flow_placed_with context f event
  same_place None = refl
  same_place (Some event) = refl

  all_events : flow_events context f (p ++ byte ∷ []) ≡ put (flow_placed_with context f (frame_event context ((u ++ p) ++ byte ∷ []))) []
  all_events =
      let quiet : IsQuiet size context f p (going_on (u ++ p)) = until_last size (inl (omega arith)) in
      events-append context f p (byte ∷ [])
      ∙ ap (λ completed. flow_events context (flow_after_bytes context f p) (byte ∷ []) ++ completed) quiet.completed
      ∙ append-nil (flow_events context (flow_after_bytes context f p) (byte ∷ []))
      ∙ ap (λ g. flow_events context g (byte ∷ [])) quiet.after_bytes
      ∙ ap (λ placed. put placed []) (placed_is context before byte (frame_event context ((u ++ p) ++ byte ∷ [])) (last_event context before (u ++ p) byte refl last_whole)
      ∙ same_place (frame_event context ((u ++ p) ++ byte ∷ [])))

  all_after : flow_after_bytes context f (p ++ byte ∷ []) ≡ flow_with context (record f { at = f.at + length (p ++ byte ∷ []); state = going_on [] }) (frame_event context ((u ++ p) ++ byte ∷ []))
  all_after =
      let quiet : IsQuiet size context f p (going_on (u ++ p)) = until_last size (inl (omega arith)) in
      let longer : length (p ++ byte ∷ []) ≡ length p + 1 = length-append p (byte ∷ []) in
      let counted : f.at + length p + 1 ≡ f.at + length (p ++ byte ∷ []) = omega arith in
      flow_after_bytes-append context f p (byte ∷ [])
      ∙ ap (λ g. flow_after_bytes context g (byte ∷ [])) quiet.after_bytes
      ∙ last_after context before (u ++ p) byte refl last_whole
      ∙ moved_on (frame_event context ((u ++ p) ++ byte ∷ [])) counted
    where
      moved_on : (event : Option Event) → f.at + length p + 1 ≡ f.at + length (p ++ byte ∷ [])
          → flow_with context (record f { at = f.at + length p + 1; state = going_on [] }) event ≡ flow_with context (record f { at = f.at + length (p ++ byte ∷ []); state = going_on [] }) event
      moved_on event same = ap (λ n. flow_with context (record f { at = n; state = going_on [] }) event) same

-- bytes that aren't none have a last one
pub record HasLast (bytes : List ℕ) : Type 0 where
  pub before : List ℕ
  pub byte : ℕ
  pub joined : bytes ≡ before ++ byte ∷ []

last_of : (byte : ℕ) (bytes : List ℕ) → HasLast (byte ∷ bytes)
last_of byte [] = record { before = []; byte = byte; joined = refl }
last_of byte (next ∷ bytes) = let more : HasLast (next ∷ bytes) = last_of next bytes in record { before = byte ∷ more.before; byte = more.byte; joined = ap (λ t. byte ∷ t) more.joined }

pub has_last : (bytes : List ℕ) → 0 < length bytes → HasLast bytes
has_last [] some = absurd (omega arith)
has_last (byte ∷ bytes) some = last_of byte bytes

rejoined : (u bytes p : List ℕ) (byte : ℕ) → bytes ≡ p ++ byte ∷ [] → (u ++ p) ++ byte ∷ [] ≡ u ++ bytes
rejoined u bytes p byte e = append_assoc u p (byte ∷ []) ∙ ap (λ t. u ++ t) (sym e)

-- Bytes that complete a packet, and go on after it with none: only its last one completes anything, and is refused for that alone.
pub complete-refused : (limit : ℕ) (context : BodyContext) (f : Flow) (u bytes : List ℕ) (header size at : ℕ) → f.state ≡ record { unfinished = u; lost = false }
    → fixed_header_of (u ++ bytes) ≡ headers.Whole header size → size ≡ length (u ++ bytes) → 0 < length bytes → at + 1 ≡ f.at + length bytes → (size ≤ limit) ⊎ (header ≤ length u)
    → flow_refused limit context f bytes ≡ first_that_applies (
    (is_other_version (read_frame (u ++ bytes)), refusals.OtherVersion at)
    ∷ (flows_too_early context f (option_map (item_event context.direction) (item_read (u ++ bytes) (read_frame (u ++ bytes)))), refusals.TooManyEarly at)
    ∷ (is_some (option_map (item_event context.direction) (item_read (u ++ bytes) (read_frame (u ++ bytes)))) && nat_le 4294967295 f.events, refusals.TooLong at)
    ∷ [])
complete-refused limit context f u bytes header size at e known all some last may =
    let cut : HasLast bytes = has_last bytes some in
    let frame : (u ++ cut.before) ++ cut.byte ∷ [] ≡ u ++ bytes = rejoined u bytes cut.before cut.byte cut.joined in
    let longer : length bytes ≡ length cut.before + 1 = ap length cut.joined ∙ length-append cut.before (cut.byte ∷ []) in
    let place : f.at + length cut.before ≡ at = omega arith in
    ap (flow_refused limit context f) cut.joined
    ∙ all_refused context f u cut.before cut.byte e header size (ap fixed_header_of frame ∙ known) (all ∙ ap length (sym frame)) limit may
    ∙ ap (λ t. frame_lines context f t (frame_event context t) (f.at + length cut.before)) frame
    ∙ ap (frame_lines context f (u ++ bytes) (frame_event context (u ++ bytes))) place

pub complete-events : (context : BodyContext) (f : Flow) (u bytes : List ℕ) (header size : ℕ) → f.state ≡ record { unfinished = u; lost = false }
    → fixed_header_of (u ++ bytes) ≡ headers.Whole header size → size ≡ length (u ++ bytes) → 0 < length bytes
    → flow_events context f bytes ≡ put (flow_placed_with context f (option_map (item_event context.direction) (item_read (u ++ bytes) (read_frame (u ++ bytes))))) []
complete-events context f u bytes header size e known all some =
    let cut : HasLast bytes = has_last bytes some in
    let frame : (u ++ cut.before) ++ cut.byte ∷ [] ≡ u ++ bytes = rejoined u bytes cut.before cut.byte cut.joined in
    ap (flow_events context f) cut.joined
    ∙ all_events context f u cut.before cut.byte e header size (ap fixed_header_of frame ∙ known) (all ∙ ap length (sym frame))
    ∙ ap (λ t. put (flow_placed_with context f (frame_event context t)) []) frame

pub complete-after : (context : BodyContext) (f : Flow) (u bytes : List ℕ) (header size : ℕ) → f.state ≡ record { unfinished = u; lost = false }
    → fixed_header_of (u ++ bytes) ≡ headers.Whole header size → size ≡ length (u ++ bytes) → 0 < length bytes
    → flow_after_bytes context f bytes ≡ flow_with context (record f { at = f.at + length bytes; state = record { unfinished = []; lost = false } })
    (option_map (item_event context.direction) (item_read (u ++ bytes) (read_frame (u ++ bytes))))
complete-after context f u bytes header size e known all some =
    let cut : HasLast bytes = has_last bytes some in
    let frame : (u ++ cut.before) ++ cut.byte ∷ [] ≡ u ++ bytes = rejoined u bytes cut.before cut.byte cut.joined in
    ap (flow_after_bytes context f) cut.joined
    ∙ all_after context f u cut.before cut.byte e header size (ap fixed_header_of frame ∙ known) (all ∙ ap length (sym frame))
    ∙ ap (λ t. flow_with context (record f { at = f.at + length (cut.before ++ cut.byte ∷ []); state = going_on [] }) (frame_event context t)) frame
    ∙ ap (λ t. flow_with context (record f { at = f.at + length t; state = going_on [] }) (frame_event context (u ++ bytes))) (sym cut.joined)

-- where the frame alone is known, and not its header
pub complete-refused-within : (limit : ℕ) (context : BodyContext) (f : Flow) (u bytes : List ℕ) (at : ℕ) → f.state ≡ record { unfinished = u; lost = false }
    → frame_size (u ++ bytes) ≡ Some (length (u ++ bytes)) → 0 < length bytes → at + 1 ≡ f.at + length bytes → length (u ++ bytes) ≤ limit
    → flow_refused limit context f bytes ≡ first_that_applies (
    (is_other_version (read_frame (u ++ bytes)), refusals.OtherVersion at)
    ∷ (flows_too_early context f (option_map (item_event context.direction) (item_read (u ++ bytes) (read_frame (u ++ bytes)))), refusals.TooManyEarly at)
    ∷ (is_some (option_map (item_event context.direction) (item_read (u ++ bytes) (read_frame (u ++ bytes)))) && nat_le 4294967295 f.events, refusals.TooLong at)
    ∷ [])
complete-refused-within limit context f u bytes at e whole some last within =
    let found : (header : ℕ) × (fixed_header_of (u ++ bytes) ≡ headers.Whole header (length (u ++ bytes))) × (length (u ++ bytes) ≤ length (u ++ bytes)) = header_from_frame (u ++ bytes) (length (u ++ bytes)) whole in
    complete-refused limit context f u bytes found.0 (length (u ++ bytes)) at e found.1 refl some last (inl within)

pub complete-events-frame : (context : BodyContext) (f : Flow) (u bytes : List ℕ) → f.state ≡ record { unfinished = u; lost = false }
    → frame_size (u ++ bytes) ≡ Some (length (u ++ bytes)) → 0 < length bytes
    → flow_events context f bytes ≡ put (flow_placed_with context f (option_map (item_event context.direction) (item_read (u ++ bytes) (read_frame (u ++ bytes))))) []
complete-events-frame context f u bytes e whole some =
    let found : (header : ℕ) × (fixed_header_of (u ++ bytes) ≡ headers.Whole header (length (u ++ bytes))) × (length (u ++ bytes) ≤ length (u ++ bytes)) = header_from_frame (u ++ bytes) (length (u ++ bytes)) whole in
    complete-events context f u bytes found.0 (length (u ++ bytes)) e found.1 refl some

pub complete-after-frame : (context : BodyContext) (f : Flow) (u bytes : List ℕ) → f.state ≡ record { unfinished = u; lost = false }
    → frame_size (u ++ bytes) ≡ Some (length (u ++ bytes)) → 0 < length bytes
    → flow_after_bytes context f bytes ≡ flow_with context (record f { at = f.at + length bytes; state = record { unfinished = []; lost = false } })
    (option_map (item_event context.direction) (item_read (u ++ bytes) (read_frame (u ++ bytes))))
complete-after-frame context f u bytes e whole some =
    let found : (header : ℕ) × (fixed_header_of (u ++ bytes) ≡ headers.Whole header (length (u ++ bytes))) × (length (u ++ bytes) ≤ length (u ++ bytes)) = header_from_frame (u ++ bytes) (length (u ++ bytes)) whole in
    complete-after context f u bytes found.0 (length (u ++ bytes)) e found.1 refl some

-- A refusal of the first bytes stays, whatever follows; where there is none, what follows decides.
pub refused-first : (limit : ℕ) (context : BodyContext) (f : Flow) (a b : List ℕ) (refusal : Refusal) → flow_refused limit context f a ≡ Some refusal → flow_refused limit context f (a ++ b) ≡ Some refusal
refused-first limit context f a b refusal e = refused-append limit context f a b ∙ ap (λ o. option_or o (flow_refused limit context (flow_after_bytes context f a) b)) e

pub refused-later : (limit : ℕ) (context : BodyContext) (f : Flow) (a b : List ℕ) → flow_refused limit context f a ≡ None → flow_refused limit context f (a ++ b) ≡ flow_refused limit context (flow_after_bytes context f a) b
refused-later limit context f a b e = refused-append limit context f a b ∙ ap (λ o. option_or o (flow_refused limit context (flow_after_bytes context f a) b)) e

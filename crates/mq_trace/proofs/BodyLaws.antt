-- The body of a record that carries packets.
use Rattle.std.proofs.Common.{◌≡◌, ℕ, ◌+◌, ◌-◌, ◌*◌, ◌<◌, ◌≤◌, Bool, true, false, cond, List, [], ◌∷◌, ◌++◌, length, take, Option, Some, None, refl, sym, ◌∙◌, ap, subst, arith, length-append}
use Rattle.std.specs.Prelude.{◌==◌, if◌then◌else◌}
use Rattle.std.proofs.lemmas.Bool.{eqb-true, eqb-false, eq-eqb, ne_eqb}
use Rattle.std.proofs.lemmas.List.{take-append-le, length-take-le}
use Rattle.mq_log.specs.declared.kind.Direction.{Direction}
use Rattle.mq_log.specs.declared.kind.Direction.TheVariants as directions
use Rattle.mq_log.specs.declared.header.Header.{Header}
use Rattle.mq_trace.specs.declared.stage.Stage.{Stage}
use Rattle.mq_trace.specs.declared.stage.Stage.TheVariants as stages
use Rattle.mq_log.specs.declared.refusal.Refusal.{Refusal}
use Rattle.mq_trace.specs.declared.connections.Connections.{Connections}
use Rattle.mq_trace.specs.declared.deframer.Deframer.{Deframer}
use Rattle.mq_trace.specs.declared.reading.Reading.{Reading}
use Rattle.mq_log.specs.Framing.{kind_of, direction_of, body_length, head_length, longest_record}
use Rattle.mq_log.specs.Events.{Event, Placed}
use Rattle.mq_log.specs.Context.{so_far_in, so_far_for}
use Rattle.mq_trace.specs.Runs.{after_bytes, refused_in, events_by}
use Rattle.mq_log.specs.Flows.{BodyContext, Flow, flow_event, flow_with, flow_after, flow_after_bytes, flow_refused, flow_events, context_in, flow_in, flowed}
use Rattle.mq_log.specs.Reception.{AreEvents}
use Rattle.mq_trace.specs.Deframing.{flow_of, FlowWhy, FlowStops}
use Rattle.mq_trace.specs.Keeping.{state_in, IsAt, StandsAt, context_of, begun_in, IsWithin, IsUnfinished, IsSound, Advances, Comes, StepStops}
use Rattle.mq_trace.specs.Stepping.{in_record_of, context_for, deframer_for, flow_for, redirected, leaving, carried_on}
use Rattle.mq_log.proofs.Exports.{head_least, body_length-append, kind_of-append}
use Rattle.mq_trace.proofs.MomentLaws.{moment_stays}
use Rattle.mq_trace.proofs.EndLaws.{left_sound}
use Rattle.mq_trace.proofs.LiftLaws.{lifted-so_far, state_flowed, lifted-refused, lifted-events, lifted-after_bytes}

flow_same : (r : Reading) (direction : Direction) (part : List ℕ) → flow_in (context_of r part) direction ≡ flow_for r direction
flow_same r directions.Sent part = refl
flow_same r directions.Recv part = refl

-- No byte of a body opens or ends a connection.
connected_with : (context : BodyContext) (f : Flow) (event : Option Event) → (flow_with context f event).connected ≡ f.connected
connected_with context f None = refl
connected_with context f (Some event) = refl

connected_after : (context : BodyContext) (f : Flow) (byte : ℕ) → (flow_after context f byte).connected ≡ f.connected
unfolding flow_after
connected_after context f byte = connected_with context _ (flow_event context f byte)

connected_after_bytes : (context : BodyContext) (f : Flow) (bytes : List ℕ) → (flow_after_bytes context f bytes).connected ≡ f.connected
connected_after_bytes context f [] = refl
connected_after_bytes context f (byte ∷ bytes) = connected_after_bytes context (flow_after context f byte) bytes ∙ connected_after context f byte

before_with : (context : BodyContext) (f : Flow) (event : Option Event) → (flow_with context f event).before_open ≡ f.before_open
before_with context f None = refl
before_with context f (Some event) = refl

before_after : (context : BodyContext) (f : Flow) (byte : ℕ) → (flow_after context f byte).before_open ≡ f.before_open
unfolding flow_after
before_after context f byte = before_with context _ (flow_event context f byte)

before_after_bytes : (context : BodyContext) (f : Flow) (bytes : List ℕ) → (flow_after_bytes context f bytes).before_open ≡ f.before_open
before_after_bytes context f [] = refl
before_after_bytes context f (byte ∷ bytes) = before_after_bytes context (flow_after context f byte) bytes ∙ before_after context f byte

limit_same : (r : Reading) (direction : Direction) (d : Deframer) → (redirected r direction d).limit ≡ r.limit
limit_same r directions.Sent d = refl
limit_same r directions.Recv d = refl

place_same : (r : Reading) (direction : Direction) (d : Deframer) → (redirected r direction d).at ≡ r.at
place_same r directions.Sent d = refl
place_same r directions.Recv d = refl

header_same : (r : Reading) (direction : Direction) (d : Deframer) → (redirected r direction d).header ≡ r.header
header_same r directions.Sent d = refl
header_same r directions.Recv d = refl

moment_same : (r : Reading) (direction : Direction) (d : Deframer) → (redirected r direction d).moment ≡ r.moment
moment_same r directions.Sent d = refl
moment_same r directions.Recv d = refl

flowed_context : (r : Reading) (direction : Direction) (part bytes : List ℕ) (d : Deframer) (connections : Connections) (at left : ℕ) → connections.connected ≡ r.connections.connected → connections.before_open ≡ r.connections.before_open
    → flowed (context_of r part) direction (left == 0) (flow_of at (state_in d) connections) bytes ≡ context_of (carried_on r direction at d connections left) (cond (left == 0) [] (part ++ bytes))
flowed_context r directions.Sent part bytes d connections at left same before =
    ap (λ b. record (context_of (carried_on r directions.Sent at d connections left) (cond (left == 0) [] (part ++ bytes))) { connected = b; before_open = r.connections.before_open }) (sym same)
    ∙ ap (λ n. record (context_of (carried_on r directions.Sent at d connections left) (cond (left == 0) [] (part ++ bytes))) { before_open = n }) (sym before)
flowed_context r directions.Recv part bytes d connections at left same before =
    ap (λ b. record (context_of (carried_on r directions.Recv at d connections left) (cond (left == 0) [] (part ++ bytes))) { connected = b; before_open = r.connections.before_open }) (sym same)
    ∙ ap (λ n. record (context_of (carried_on r directions.Recv at d connections left) (cond (left == 0) [] (part ++ bytes))) { before_open = n }) (sym before)

redirected_sound : (r : Reading) (direction : Direction) (d : Deframer) (connections : Connections) (at left : ℕ) → at ≤ 8 + longest_record * r.records + (longest_record - left) → left ≤ 16777216 → 8 ≤ at → r.records < 4294967295
    → IsUnfinished r.limit (state_in r.sent) → IsUnfinished r.limit (state_in r.recv) → IsUnfinished r.limit (state_in d) → IsSound (carried_on r direction at d connections left)
redirected_sound r directions.Sent d connections at left counted short past_header room sent recv own = left_sound (record r { sent = d; at = at; connections = connections }) directions.Sent left counted short past_header room own recv
redirected_sound r directions.Recv d connections at left counted short past_header room sent recv own = left_sound (record r { recv = d; at = at; connections = connections }) directions.Recv left counted short past_header room sent own

-- within a body of which so many bytes are still to come
module _ (r : Reading) (direction : Direction) (left : ℕ) (sound : IsSound r) (staged : r.stage ≡ stages.Body direction left) where
  body_within : (1 ≤ left) × (left ≤ 16777216)
  body_within = subst (IsWithin r.header.version r.moment) staged sound.within

  pub body_after : 8 ≤ r.at
  body_after = let some : begun_in r.stage ≡ longest_record - left = ap begun_in staged in let few = body_within.1 in sound.past_header (omega arith)

  pub body_room : r.records < 4294967295
  body_room = let some : begun_in r.stage ≡ longest_record - left = ap begun_in staged in let few = body_within.1 in sound.begun (omega arith)

  pub body_counted : r.at ≤ 8 + longest_record * r.records + (longest_record - left)
  body_counted = let some : begun_in r.stage ≡ longest_record - left = ap begun_in staged in omega (arith, sound.counted)

  body_is : (part : List ℕ) → StandsAt r part → IsAt (head_length r.header.version) r.moment (stages.Body direction left) part
  body_is part at = subst (λ s. IsAt (head_length r.header.version) r.moment s part) staged at

  -- the record is the one whose moment the reader keeps
  context_same : (part : List ℕ) → StandsAt r part → context_in (context_of r part) direction ≡ context_for r direction
  context_same part at = ap (λ m. record (context_for r direction) { in_record = in_record_of r m }) (body_is part at).5

  body_goes : (part : List ℕ) → StandsAt r part → direction_of (kind_of part) ≡ Some direction
  body_goes part at = let h = body_is part at in ap direction_of h.1 ∙ h.2

  body_fits : (part bytes : List ℕ) → StandsAt r part → length bytes ≤ left → length part + length bytes ≤ head_length r.header.version + body_length part
  body_fits part bytes at short = let h = body_is part at in let there : head_length r.header.version ≤ length part = h.3 in let size : length part + left ≡ head_length r.header.version + body_length part = h.4 in omega arith

  pub body_refused : (part bytes : List ℕ) → StandsAt r part → length bytes ≤ left → refused_in r.limit (context_of r part) bytes ≡ flow_refused r.limit (context_for r direction) (flow_for r direction) bytes
  body_refused part bytes at short =
      lifted-refused r.limit (context_of r part) direction bytes body_after (body_goes part at) (body_is part at).3 (body_fits part bytes at short)
      ∙ ap (λ context. flow_refused r.limit context (flow_in (context_of r part) direction) bytes) (context_same part at)
      ∙ ap (λ f. flow_refused r.limit (context_for r direction) f bytes) (flow_same r direction part)

  pub body_events : (part bytes : List ℕ) → StandsAt r part → length bytes ≤ left → events_by (context_of r part) bytes ≡ flow_events (context_for r direction) (flow_for r direction) bytes
  body_events part bytes at short =
      lifted-events (context_of r part) direction bytes body_after (body_goes part at) (body_is part at).3 (body_fits part bytes at short)
      ∙ ap (λ context. flow_events context (flow_in (context_of r part) direction) bytes) (context_same part at)
      ∙ ap (λ f. flow_events (context_for r direction) f bytes) (flow_same r direction part)

  same_end : (n n' m m' : ℕ) → n + m ≡ n' + m' → (n == n') ≡ (m == m')
  same_end n n' m m' e = by_cases (m == m') refl
    where
      by_cases : (t : Bool) → (m == m') ≡ t → (n == n') ≡ t
      by_cases true is = let same = eqb-true m m' is in eq-eqb n n' (omega arith)
      by_cases false is = let other = eqb-false m m' is in ne_eqb n n' (λ same. other (omega arith))

  left_whole : (part bytes : List ℕ) → StandsAt r part → length bytes ≤ left → (length part + length bytes == head_length r.header.version + body_length part) ≡ (left - length bytes == 0)
  left_whole part bytes at short =
      let h = body_is part at in
      let size : length part + left ≡ head_length r.header.version + body_length part = h.4 in
      same_end (length part + length bytes) (head_length r.header.version + body_length part) (left - length bytes) 0 (omega arith)

  pub body_kept : (part bytes : List ℕ) → StandsAt r part → length bytes ≤ left
      → after_bytes (context_of r part) bytes ≡ flowed (context_of r part) direction (left - length bytes == 0) (flow_after_bytes (context_for r direction) (flow_for r direction) bytes) bytes
  body_kept part bytes at short =
      let h = body_is part at in
      let size : length part + left ≡ head_length r.header.version + body_length part = h.4 in
      let some : 1 ≤ left = body_within.0 in
      lifted-after_bytes (context_of r part) direction bytes body_after (body_goes part at) h.3 (omega arith) (body_fits part bytes at short)
      ∙ ap (λ context. flowed (context_of r part) direction (length part + length bytes == head_length r.header.version + body_length part) (flow_after_bytes context (flow_in (context_of r part) direction) bytes) bytes) (context_same part at)
      ∙ ap (λ f. flowed (context_of r part) direction (length part + length bytes == head_length r.header.version + body_length part) (flow_after_bytes (context_for r direction) f bytes) bytes) (flow_same r direction part)
      ∙ ap (λ t. flowed (context_of r part) direction t (flow_after_bytes (context_for r direction) (flow_for r direction) bytes) bytes) (left_whole part bytes at short)

  -- The packet of a byte after them is the direction's.
  pub body_so_far : (part bytes : List ℕ) (byte : ℕ) → StandsAt r part → length bytes < left
      → so_far_for (after_bytes (context_of r part) bytes) byte ≡ so_far_in (flow_after_bytes (context_for r direction) (flow_for r direction) bytes).state byte
  body_so_far part bytes byte at short =
      let h = body_is part at in
      let there : head_length r.header.version ≤ length part = h.3 in
      let least = head_least r.header.version in
      let some : 0 < left - length bytes = omega arith in
      let goes_on : (left - length bytes == 0) ≡ false = ne_eqb (left - length bytes) 0 (λ same. (omega arith)) in
      let f : Flow = flow_after_bytes (context_for r direction) (flow_for r direction) bytes in
      let l = length-append part bytes in
      let kept : after_bytes (context_of r part) bytes ≡ flowed (context_of r part) direction false f bytes
      = body_kept part bytes at (omega arith) ∙ ap (λ t. flowed (context_of r part) direction t f bytes) goes_on in
      ap (λ c. so_far_for c byte) kept
      ∙ lifted-so_far (flowed (context_of r part) direction false f bytes) direction byte (ap direction_of (kind_of-append part bytes (omega arith)) ∙ body_goes part at) (omega arith)
      ∙ ap (λ state. so_far_in state byte) (state_flowed (context_of r part) direction f bytes)

  -- where the part is after them
  left_at : (part bytes : List ℕ) → StandsAt r part → length bytes ≤ left → (t : Bool) → (left - length bytes == 0) ≡ t
      → IsAt (head_length r.header.version) r.moment (if t then stages.Between else stages.Body direction (left - length bytes)) (cond t [] (part ++ bytes))
  left_at part bytes at short true is = refl
  left_at part bytes at short false is =
      let h = body_is part at in
      let there : head_length r.header.version ≤ length part = h.3 in
      let size : length part + left ≡ head_length r.header.version + body_length part = h.4 in
      let l = length-append part bytes in
      let least = head_least r.header.version in
      let body = body_length-append part bytes (omega arith) in
      (h.0, kind_of-append part bytes (omega arith) ∙ h.1, h.2, omega arith, omega arith, moment_stays (head_length r.header.version) part bytes there ∙ h.5)

  left_stands : (part bytes : List ℕ) (d : Deframer) (connections : Connections) (at : ℕ) → StandsAt r part → length bytes ≤ left
      → StandsAt (carried_on r direction at d connections (left - length bytes)) (cond (left - length bytes == 0) [] (part ++ bytes))
  left_stands part bytes d connections at is short =
      let stage : Stage = if left - length bytes == 0 then stages.Between else stages.Body direction (left - length bytes) in
      let rest : List ℕ = cond (left - length bytes == 0) [] (part ++ bytes) in
      subst (λ m. IsAt (head_length (redirected r direction d).header.version) m stage rest) (sym (moment_same r direction d))
      (subst (λ (t : Header). IsAt (head_length t.version) r.moment stage rest) (sym (header_same r direction d)) (left_at part bytes is short (left - length bytes == 0) refl))

  -- Bytes of one body that are taken in.
  pub body_steps : (bytes : List ℕ) (d : Deframer) (connections : Connections) (at : ℕ) → length bytes ≤ left
      → flow_refused r.limit (context_for r direction) (flow_for r direction) bytes ≡ None
      → flow_after_bytes (context_for r direction) (flow_for r direction) bytes ≡ flow_of at (state_in d) connections
      → Advances r (carried_on r direction at d connections (left - length bytes)) bytes (flow_events (context_for r direction) (flow_for r direction) bytes)
  body_steps bytes d connections at short none kept = record {
    limit = limit_same r direction d;
    each = λ part is. (
      cond (left - length bytes == 0) [] (part ++ bytes),
      left_stands part bytes d connections at is short,
      body_refused part bytes is short ∙ none,
      body_kept part bytes is short
          ∙ ap (λ f. flowed (context_of r part) direction (left - length bytes == 0) f bytes) kept
          ∙ flowed_context r direction part bytes d connections at (left - length bytes) (sym (ap (λ (f : Flow). f.connected) kept) ∙ connected_after_bytes (context_for r direction) (flow_for r direction) bytes)
          (sym (ap (λ (f : Flow). f.before_open) kept) ∙ before_after_bytes (context_for r direction) (flow_for r direction) bytes),
      body_events part bytes is short,
    );
  }

  -- Bytes of one body that aren't.
  pub body_stops : {S : Type 0} (declines : S → S → List Placed → Refusal → Type 0) (bytes : List ℕ) (old new : S) (refusal : Refusal) → length bytes ≤ left
      → FlowStops declines r.limit (context_for r direction) (flow_for r direction) bytes old new refusal → StepStops declines r bytes old new refusal
  body_stops declines bytes old new refusal short stop =
      let l : length bytes ≡ length (stop.taken ++ stop.byte ∷ stop.later) = ap length stop.is in
      let m = length-append stop.taken (stop.byte ∷ stop.later) in
      let n = length-append stop.taken (stop.byte ∷ []) in
      let some : length (stop.byte ∷ stop.later) ≡ length stop.later + 1 = omega arith in
      let few : length stop.taken ≤ left = omega arith in
      let last : length (stop.taken ++ stop.byte ∷ []) ≤ left = omega arith in
      record {
        taken = stop.taken;
        byte = stop.byte;
        later = stop.later;
        is = stop.is;
        each = λ part at. (
          body_refused part stop.taken at few ∙ stop.unrefused,
          body_events part stop.taken at few ∙ stop.completes_none,
          (let so_far : List ℕ = so_far_for (after_bytes (context_of r part) stop.taken) stop.byte in
              subst (λ o. FlowWhy declines (r.at + length stop.taken) so_far o (events_by (context_of r part) (stop.taken ++ stop.byte ∷ [])) old new refusal) (sym (body_refused part (stop.taken ++ stop.byte ∷ []) at last))
              (subst (λ h. FlowWhy declines (r.at + length stop.taken) so_far (flow_refused r.limit (context_for r direction) (flow_for r direction) (stop.taken ++ stop.byte ∷ [])) h old new refusal)
              (sym (body_events part (stop.taken ++ stop.byte ∷ []) at last))
              (subst (λ t. FlowWhy declines (r.at + length stop.taken) t (flow_refused r.limit (context_for r direction) (flow_for r direction) (stop.taken ++ stop.byte ∷ [])) (flow_events (context_for r direction) (flow_for r direction) (stop.taken ++ stop.byte ∷ [])) old new refusal)
              (sym (body_so_far part stop.taken stop.byte at (omega arith))) stop.why))),
        );
      }

  pub body_sound : (count : ℕ) (d : Deframer) (connections : Connections) → count ≤ left → IsUnfinished r.limit (state_in d) → IsSound (carried_on r direction (r.at + count) d connections (left - count))
  body_sound count d connections few unfinished =
      let after_bytes = body_after in
      let counted = body_counted in
      let short : left ≤ 16777216 = body_within.1 in
      redirected_sound r direction d connections (r.at + count) (left - count) (omega arith) (omega arith) (omega arith) body_room sound.sent sound.recv unfinished

  -- The step that passes bytes of one body on.
  pub body_comes : {S : Type 0} (agrees : S → List Placed → Type 0) (bytes body rest : List ℕ) (n : ℕ) (r1 r2 : Reading) (old new : S) → bytes ≡ body ++ rest → n ≤ length body → length body ≤ left
      → r1 ≡ record (redirected r direction (deframer_for r1 direction)) { connections = r1.connections } → r2 ≡ leaving (record r1 { at = r1.at + n }) direction (left - n)
      → flow_refused r.limit (context_for r direction) (flow_for r direction) (take n body) ≡ None
      → flow_after_bytes (context_for r direction) (flow_for r direction) (take n body) ≡ flow_of (r.at + n) (state_in (deframer_for r1 direction)) r1.connections
      → ((earlier : List Placed) → agrees old earlier → AreEvents (flow_events (context_for r direction) (flow_for r direction) (take n body) ++ earlier) → agrees new (flow_events (context_for r direction) (flow_for r direction) (take n body) ++ earlier))
      → Comes agrees r r2 (take n bytes) old new
  body_comes agrees bytes body rest n r1 r2 old new is within short passed went none kept emitted =
      let d = deframer_for r1 direction in
      let taken = length-take-le n body within in
      let few : length (take n body) ≤ left = omega arith in
      let steps : Advances r (carried_on r direction (r.at + n) d r1.connections (left - length (take n body))) (take n body) (flow_events (context_for r direction) (flow_for r direction) (take n body)) =
      body_steps (take n body) d r1.connections (r.at + n) few none kept in
      let counted : Advances r (carried_on r direction (r.at + n) d r1.connections (left - n)) (take n body) (flow_events (context_for r direction) (flow_for r direction) (take n body)) =
      subst (λ m. Advances r (carried_on r direction (r.at + n) d r1.connections (left - m)) (take n body) (flow_events (context_for r direction) (flow_for r direction) (take n body))) taken steps in
      let ends : r2 ≡ carried_on r direction (r.at + n) d r1.connections (left - n) =
      went
      ∙ ap (λ m. leaving (record r1 { at = m + n }) direction (left - n)) (ap (λ (x : Reading). x.at) passed ∙ place_same r direction d)
      ∙ ap (λ (x : Reading). leaving (record x { at = r.at + n }) direction (left - n)) passed in
      let front : take n body ≡ take n bytes = sym (take-append-le n body rest within) ∙ ap (take n) (sym is) in
      subst (λ (l : List ℕ). Comes agrees r r2 l old new) front (record {
        completed = flow_events (context_for r direction) (flow_for r direction) (take n body);
        advances = subst (λ (x : Reading). Advances r x (take n body) (flow_events (context_for r direction) (flow_for r direction) (take n body))) (sym ends) counted;
        emitted = emitted;
      })

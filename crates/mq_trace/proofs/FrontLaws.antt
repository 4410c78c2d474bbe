-- A record's head and the whole packet that its body begins with, in one step.
use Rattle.std.proofs.Common.{◌≡◌, ℕ, ◌+◌, ◌-◌, ◌≤◌, List, [], ◌++◌, length, min, take, drop, None, refl, sym, ◌∙◌, ap, subst, arith}
use Rattle.std.proofs.lemmas.Bool.{ne_eqb}
use Rattle.std.proofs.lemmas.List.{take-append-drop, length-take}
use Rattle.mq_log.specs.declared.kind.Direction.{Direction}
use Rattle.mq_log.specs.declared.kind.Direction.TheVariants as directions
use Rattle.mq_log.specs.declared.refusal.Refusal.{Refusal}
use Rattle.mq_trace.specs.declared.stage.Stage.TheVariants as stages
use Rattle.mq_trace.specs.declared.connections.Connections.{Connections}
use Rattle.mq_trace.specs.declared.reading.Reading.{Reading}
use Rattle.mq_log.specs.Framing.{head_length}
use Rattle.mq_log.specs.Events.{Placed}
use Rattle.mq_log.specs.Context.{StreamState, emptied}
use Rattle.mq_log.specs.Flows.{flow_refused, flow_after_bytes, flow_events}
use Rattle.mq_log.specs.Reception.{AreEvents}
use Rattle.mq_trace.specs.Deframing.{flow_of, FlowComes, FlowStops}
use Rattle.mq_trace.specs.Keeping.{state_in, IsUnfinished, IsSound, Advances, Comes, StepStops}
use Rattle.mq_trace.specs.Stepping.{IsBodyHead, begun_body, context_for, deframer_for, flow_for, redirected, leaving}
use Rattle.mq_trace.proofs.ReadingLaws.{stops_longer}
use Rattle.mq_trace.proofs.HeadLaws.{head_taken, head_sound, comes_after_head, stops_after_head}
use Rattle.mq_trace.proofs.BodyLaws.{body_comes, body_sound, body_stops}
use Rattle.mq_trace.proofs.DeframerLaws.{stops_front}

-- how long it is
pub begun_few : (ahead left : ℕ) (bytes : List ℕ) → length (begun_body ahead left bytes) ≤ left
begun_few ahead left bytes = let l = length-take (min (length (drop ahead bytes)) left) (drop ahead bytes) in omega arith

module _ (r : Reading) (direction : Direction) (left moment : ℕ) (bytes : List ℕ) (sound : IsSound r) (head : IsBodyHead r bytes direction left moment) (some : 1 ≤ left) where
  abbrev ahead : ℕ
  ahead = head_length r.header.version

  abbrev body : List ℕ
  body = begun_body ahead left bytes

  abbrev rest : List ℕ
  rest = drop (min (length (drop ahead bytes)) left) (drop ahead bytes)

  -- after the head
  abbrev pub headed : Reading
  headed = record r { at = r.at + ahead; moment = moment; stage = stages.Body direction left }

  headed_is : headed ≡ leaving (record r { at = r.at + ahead; moment = moment }) direction left
  headed_is = rw (ne_eqb left 0 (λ none. omega arith)) refl

  taken : Advances r headed (take ahead bytes) []
  taken = head_taken r headed direction left moment bytes head headed_is

  headed_sound : IsSound headed
  headed_sound = head_sound r headed direction left moment bytes sound head headed_is

  parts : drop ahead bytes ≡ body ++ rest
  parts = sym (take-append-drop (min (length (drop ahead bytes)) left) (drop ahead bytes))

  idle_still : (d : Direction) → state_in (deframer_for headed d) ≡ state_in (deframer_for r d)
  idle_still directions.Sent = refl
  idle_still directions.Recv = refl

  -- new events leave the directions as they are
  passed : (d : Direction) (c : Connections) → record headed { connections = c } ≡ record (redirected headed d (deframer_for (record headed { connections = c }) d)) { connections = c }
  passed directions.Sent c = refl
  passed directions.Recv c = refl

  still_idle : (d : Direction) (c : Connections) → state_in (deframer_for (record headed { connections = c }) d) ≡ state_in (deframer_for r d)
  still_idle directions.Sent c = refl
  still_idle directions.Recv c = refl

  pub front_comes : {S : Type 0} (agrees : S → List Placed → Type 0) (size : ℕ) (r2 : Reading) (c : Connections) (old new : S) → size ≤ length body → state_in (deframer_for r direction) ≡ emptied
      → r2 ≡ leaving (record r { at = r.at + ahead + size; moment = moment; connections = c }) direction (left - size)
      → FlowComes agrees r.limit (context_for headed direction) (flow_of (r.at + ahead) emptied r.connections) (flow_of (r.at + ahead + size) emptied c) (take size body) old new
      → Comes agrees r r2 (take (ahead + size) bytes) old new
  front_comes {S} agrees size r2 c old new within idle went comes =
      let r1 : Reading = record headed { connections = c } in
      let here : state_in (deframer_for headed direction) ≡ emptied = idle_still direction ∙ idle in
      let there : state_in (deframer_for r1 direction) ≡ emptied = still_idle direction c ∙ idle in
      let context = context_for headed direction in
      let none : flow_refused headed.limit context (flow_for headed direction) (take size body) ≡ None =
      ap (λ (h : StreamState). flow_refused headed.limit context (flow_of headed.at h headed.connections) (take size body)) here ∙ comes.unrefused in
      let kept : flow_after_bytes context (flow_for headed direction) (take size body) ≡ flow_of (headed.at + size) (state_in (deframer_for r1 direction)) r1.connections =
      ap (λ (h : StreamState). flow_after_bytes context (flow_of headed.at h headed.connections) (take size body)) here ∙ comes.kept ∙ ap (λ (h : StreamState). flow_of (headed.at + size) h c) (sym there) in
      let emitted : (earlier : List Placed) → agrees old earlier → AreEvents (flow_events context (flow_for headed direction) (take size body) ++ earlier) → agrees new (flow_events context (flow_for headed direction) (take size body) ++ earlier) =
      subst (λ (h : StreamState). (earlier : List Placed) → agrees old earlier → AreEvents (flow_events context (flow_of headed.at h headed.connections) (take size body) ++ earlier) → agrees new (flow_events context (flow_of headed.at h headed.connections) (take size body) ++ earlier)) (sym here) comes.emitted in
      comes_after_head agrees r headed r2 ahead size bytes (drop ahead bytes) old new refl taken
      (body_comes headed direction left headed_sound refl agrees (drop ahead bytes) body rest size r1 r2 old new parts within (begun_few ahead left bytes) (passed direction c) went none kept emitted)

  pub front_sound : (size : ℕ) (r2 : Reading) (c : Connections) → size ≤ length body → IsUnfinished r.limit (state_in (deframer_for r direction))
      → r2 ≡ leaving (record r { at = r.at + ahead + size; moment = moment; connections = c }) direction (left - size) → IsSound r2
  front_sound size r2 c within unfinished went =
      let few = begun_few ahead left bytes in
      let d = deframer_for (record headed { connections = c }) direction in
      let kept : IsUnfinished r.limit (state_in d) = subst (IsUnfinished r.limit) (sym (still_idle direction c)) unfinished in
      subst (λ (x : Reading). IsSound x) (sym (went ∙ ap (λ (x : Reading). leaving (record x { at = r.at + ahead + size }) direction (left - size)) (passed direction c)))
      (body_sound headed direction left headed_sound refl size d c (omega arith) kept)

  pub front_stops : {S : Type 0} (declines : S → S → List Placed → Refusal → Type 0) (size : ℕ) (old new : S) (refusal : Refusal) → state_in (deframer_for r direction) ≡ emptied
      → FlowStops declines r.limit (context_for headed direction) (flow_of (r.at + ahead) emptied r.connections) (take size body) old new refusal
      → StepStops declines r bytes old new refusal
  front_stops {S} declines size old new refusal idle stop =
      let here : state_in (deframer_for headed direction) ≡ emptied = idle_still direction ∙ idle in
      let context = context_for headed direction in
      let longer = subst (λ (h : StreamState). FlowStops declines r.limit context (flow_of headed.at h headed.connections) body old new refusal) (sym here)
      (stops_front declines r.limit context (flow_of headed.at emptied headed.connections) size body old new refusal stop) in
      let step = body_stops headed direction left headed_sound refl declines body old new refusal (begun_few ahead left bytes) longer in
      stops_after_head declines r headed ahead bytes (drop ahead bytes) old new refusal refl head.whole taken refl
      (subst (λ (l : List ℕ). StepStops declines headed l old new refusal) (sym parts) (stops_longer declines headed body rest old new refusal step))

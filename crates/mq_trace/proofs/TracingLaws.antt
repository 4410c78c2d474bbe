-- From steps to logs: what a reader's steps come to, and what stops them.
use Rattle.std.proofs.Common.{◌≡◌, ℕ, ◌+◌, ◌<◌, ◌≤◌, Bool, true, false, List, [], ◌∷◌, ◌++◌, length, Option, Some, None, inl, inr, is_some, refl, sym, ap, ◌∙◌, arith, length-append, append_assoc, subst, take, drop, ◌-◌}
use Rattle.std.specs.Prelude.{◌==◌, ◌||◌, not, nat_lt}
use Rattle.std.proofs.lemmas.Bool.{eqb-true, lt-ltb, ltb-true, ltb-false}
use Rattle.std.proofs.lemmas.List.{append-nil, take-append-drop, length-drop, take_all, nil_from_length}
use Rattle.std.specs.Option.{option_or}
use Rattle.mq_log.specs.declared.refusal.Refusal.{Refusal}
use Rattle.mq_log.specs.declared.refusal.Refusal.TheVariants as refusals
use Rattle.mq_trace.specs.declared.stage.Stage.{Stage}
use Rattle.mq_trace.specs.declared.stage.Stage.TheVariants as stages
use Rattle.mq_trace.specs.declared.reading.Reading.{Reading}
use Rattle.mq_log.specs.Framing.{header_by, length_end, head_length, moment_in, records}
use Rattle.mq_log.specs.Events.{Event, Placed, events, event_at, packet_at, unfinished_at}
use Rattle.mq_log.specs.Refusals.{refused, refusal_at, is_cut_short}
use Rattle.mq_log.specs.Refusing.{moved}
use Rattle.mq_log.specs.Context.{Context, ahead_of, unfinished_of, context, fresh, so_far_for, event_for, placed_for, placed_with, put}
use Rattle.mq_trace.specs.Runs.{after_bytes, refused_in, events_by}
use Rattle.mq_log.specs.Reception.{AreEvents, Declines}
use Rattle.mq_trace.specs.Deframing.{NeedsMemory, FlowWhy}
use Rattle.mq_trace.specs.Keeping.{IsAt, context_of, unfinished_by, Comes, StepStops}
use Rattle.mq_trace.specs.Tracing.{HasRead, HasReceived, Why, Stops, left_if, left_at_end, is_between}
use Rattle.mq_log.proofs.Exports.{at_context, connected_context, unfinished-kept, part_context, context_is, context-nothing, refused-nothing, packet-kept, header-so_far, event-kept, refused-grow}
use Rattle.mq_log.proofs.Exports.{head_least}
use Rattle.mq_trace.proofs.RunLaws.{events_append, context_run, events_run, passes, stops}

-- A reader that keeps a log and comes on with some bytes keeps the log with these bytes after it.
pub keeps_on : {S : Type 0} (agrees : S → List Placed → Type 0) (r r' : Reading) (log bytes : List ℕ) (old new : S) → HasRead r log → Comes agrees r r' bytes old new → HasRead r' (log ++ bytes)
keeps_on agrees r r' log bytes old new keeps comes =
    (let step = comes.advances.each keeps.part keeps.stands in
    let unrefused : refused r.limit (log ++ bytes) ≡ None = passes r.limit log bytes keeps.unrefused (ap (λ (c : Context). refused_in r.limit c bytes) keeps.kept ∙ step.2) in
    record {
      unrefused = ap (λ (limit : ℕ). refused limit (log ++ bytes)) comes.advances.limit ∙ unrefused;
      part = step.0;
      stands = step.1;
      kept = context_run log bytes ∙ ap (λ (c : Context). after_bytes c bytes) keeps.kept ∙ step.3;
    })

-- A sink that had received the events of the log has received those of the longer log then.
pub receives_on : {S : Type 0} (agrees : S → List Placed → Type 0) (r r' : Reading) (log bytes : List ℕ) (old new : S) → HasRead r log → Comes agrees r r' bytes old new → HasReceived agrees log bytes old new
receives_on agrees r r' log bytes old new keeps comes =
    (let step = comes.advances.each keeps.part keeps.stands in
    let longer : events (log ++ bytes) ≡ comes.completed ++ events log
    = events_run log bytes ∙ ap (λ (l : List Placed). l ++ events log) (ap (λ (c : Context). events_by c bytes) keeps.kept ∙ step.4) in
    let next = keeps_on agrees r r' log bytes old new keeps comes in
    λ was. subst (agrees new) (sym longer) (comes.emitted (events log) was (record { limit = r'.limit; log = log ++ bytes; unrefused = next.unrefused; are = sym longer })))

-- an event at its place is an event
some_placed : (c : Context) (moment : ℕ) (event : Option Event) → length (put (placed_with c moment event) []) ≡ 1 → is_some event ≡ true
some_placed c moment None one = absurd (omega (arith, one))
some_placed c moment (Some event) one = refl

some_event : (c : Context) (byte : ℕ) → length (put (placed_for c byte) []) ≡ 1 → is_some (event_for c byte) ≡ true
unfolding placed_for
some_event c byte one = some_placed c (moment_in (ahead_of c) (c.part ++ byte ∷ [])) (event_for c byte) one

-- A byte of a packet, by what is kept, is one in the log.
packet_there : (log : List ℕ) (byte : ℕ) → NeedsMemory (so_far_for (context log) byte) → NeedsMemory (packet_at log byte)
packet_there log byte needs = by_length (nat_lt (length log) 8) refl
  where
    by_length : (b : Bool) → nat_lt (length log) 8 ≡ b → NeedsMemory (packet_at log byte)
    by_length true is =
        let none : so_far_for (context log) byte ≡ [] = header-so_far log byte (ltb-true (length log) 8 is) in
        let some : 0 < length (so_far_for (context log) byte) = needs.packet in
        let nothing : length (so_far_for (context log) byte) ≡ 0 = ap length none in
        absurd (omega arith)
    by_length false is = subst NeedsMemory (sym (packet-kept log byte (ltb-false (length log) 8 is))) needs

-- What stops a step stops the log.
module _ {S : Type 0} (agrees : S → List Placed → Type 0) (refuses : S → List Placed → Refusal → Type 0) (r : Reading) (log : List ℕ) (keeps : HasRead r log) where
  -- the byte after these bytes
  module _ (taken : List ℕ) (byte : ℕ) (unrefused : refused_in r.limit (context_of r keeps.part) taken ≡ None) (completes_none : events_by (context_of r keeps.part) taken ≡ []) where
    taken_in : refused r.limit (log ++ taken) ≡ None
    taken_in = passes r.limit log taken keeps.unrefused (ap (λ (c : Context). refused_in r.limit c taken) keeps.kept ∙ unrefused)

    same_events : events (log ++ taken) ≡ events log
    same_events = events_run log taken ∙ ap (λ (l : List Placed). l ++ events log) (ap (λ (c : Context). events_by c taken) keeps.kept ∙ completes_none)

    received_nothing : (old new : S) → new ≡ old → HasReceived agrees log taken old new
    received_nothing old new same = λ was. subst (agrees new) (sym same_events) (subst (λ (s : S). agrees s (events log)) (sym same) was)

    offset : length (log ++ taken) ≡ r.at + length taken
    offset = length-append log taken ∙ ap (λ (n : ℕ). n + length taken) (sym (at_context log) ∙ ap (λ (c : Context). c.at) keeps.kept)

    refused_here : (refusal : Refusal) → refused_in r.limit (context_of r keeps.part) (taken ++ byte ∷ []) ≡ Some refusal → refusal_at r.limit (log ++ taken) byte ≡ Some refusal
    refused_here refusal met =
        (let all : refused r.limit ((log ++ taken) ++ byte ∷ []) ≡ Some refusal
        = ap (refused r.limit) (append_assoc log taken (byte ∷ []))
        ∙ stops r.limit log (taken ++ byte ∷ []) refusal keeps.unrefused (ap (λ (c : Context). refused_in r.limit c (taken ++ byte ∷ [])) keeps.kept ∙ met) in
        ap (λ (o : Option Refusal). option_or o (refusal_at r.limit (log ++ taken) byte)) (sym taken_in) ∙ sym (refused-grow r.limit (log ++ taken) byte) ∙ all)

    completed : length (events_by (context_of r keeps.part) (taken ++ byte ∷ [])) ≡ 1 → is_some (event_at (log ++ taken) byte) ≡ true
    completed one =
        (let c = context_of r keeps.part in
        let split : events_by c (taken ++ byte ∷ []) ≡ put (placed_for (after_bytes c taken) byte) []
        = events_append c taken (byte ∷ []) ∙ ap (λ (l : List Placed). (put (placed_for (after_bytes c taken) byte) []) ++ l) completes_none ∙ append-nil (put (placed_for (after_bytes c taken) byte) []) in
        let event : is_some (event_for (after_bytes c taken) byte) ≡ true = some_event (after_bytes c taken) byte (sym (ap length split) ∙ one) in
        ap is_some (event-kept (log ++ taken) byte ∙ ap (λ (k : Context). event_for k byte) (context_run log taken ∙ ap (λ (k : Context). after_bytes k taken) keeps.kept)) ∙ event)

    -- a byte that meets no refusal
    passes_here : refused_in r.limit (context_of r keeps.part) (taken ++ byte ∷ []) ≡ None → refused r.limit (log ++ (taken ++ byte ∷ [])) ≡ None
    passes_here none = passes r.limit log (taken ++ byte ∷ []) keeps.unrefused (ap (λ (c : Context). refused_in r.limit c (taken ++ byte ∷ [])) keeps.kept ∙ none)

    unmet_here : refused_in r.limit (context_of r keeps.part) (taken ++ byte ∷ []) ≡ None → refusal_at r.limit (log ++ taken) byte ≡ None
    unmet_here none =
        ap (λ (o : Option Refusal). option_or o (refusal_at r.limit (log ++ taken) byte)) (sym taken_in)
        ∙ sym (refused-grow r.limit (log ++ taken) byte)
        ∙ ap (refused r.limit) (append_assoc log taken (byte ∷ []))
        ∙ passes_here none

    -- the packet so far of the byte
    needs_here : NeedsMemory (so_far_for (after_bytes (context_of r keeps.part) taken) byte) → NeedsMemory (packet_at (log ++ taken) byte)
    needs_here needs =
        (let kept : context (log ++ taken) ≡ after_bytes (context_of r keeps.part) taken = context_run log taken ∙ ap (λ (c : Context). after_bytes c taken) keeps.kept in
        packet_there (log ++ taken) byte (subst (λ (c : Context). NeedsMemory (so_far_for c byte)) (sym kept) needs))

    -- What the byte completes follows the events of the log.
    follows_here : refused_in r.limit (context_of r keeps.part) (taken ++ byte ∷ []) ≡ None → AreEvents (events_by (context_of r keeps.part) (taken ++ byte ∷ []) ++ events log)
    follows_here none = record {
      limit = r.limit;
      log = log ++ (taken ++ byte ∷ []);
      unrefused = passes_here none;
      are = sym (events_run log (taken ++ byte ∷ []) ∙ ap (λ (l : List Placed). l ++ events log) (ap (λ (c : Context). events_by c (taken ++ byte ∷ [])) keeps.kept));
    }

    pub why_here : (old new : S) (refusal : Refusal) → FlowWhy (Declines agrees refuses) (r.at + length taken) (so_far_for (after_bytes (context_of r keeps.part) taken) byte)
        (refused_in r.limit (context_of r keeps.part) (taken ++ byte ∷ []))
        (events_by (context_of r keeps.part) (taken ++ byte ∷ [])) old new refusal → Why agrees refuses r.limit log taken byte old new refusal
    why_here old new refusal (inl x) = inl (record { met = refused_here refusal x.0; receives = received_nothing old new x.1 })
    why_here old new refusal (inr (inl x)) =
        inr (inl (record { unmet = unmet_here x.2; needs = needs_here x.3; is = x.0 ∙ ap (λ (n : ℕ). refusals.Memory n) (sym offset); receives = received_nothing old new x.1 }))
    why_here old new refusal (inr (inr x)) =
        inr (inr (record {
          unmet = unmet_here x.0;
          completes = completed x.1;
          own = x.2.own;
          refused = λ was. subst (λ (l : List Placed). refuses new l x.2.own) (sym same_events) (x.2.refused (events log) was (follows_here x.0));
          is = x.2.is ∙ ap (moved x.2.own) (sym offset);
        }))

  pub stopped : (bytes : List ℕ) (old new : S) (refusal : Refusal) → StepStops (Declines agrees refuses) r bytes old new refusal → Stops agrees refuses r.limit log bytes old new refusal
  stopped bytes old new refusal stop =
      (let each = stop.each keeps.part keeps.stands in
      record {
        taken = stop.taken;
        byte = stop.byte;
        later = stop.later;
        is = stop.is;
        unrefused = taken_in stop.taken stop.byte each.0 each.1;
        why = why_here stop.taken stop.byte each.0 each.1 old new refusal each.2;
      })

-- Where the loop over a piece stands: these bytes of it are taken in.
pub record Goes {S : Type 0} (agrees : S → List Placed → Type 0) (first now : Reading) (piece rest : List ℕ) (old new : S) : Type 0 where
  pub done : List ℕ
  pub is : piece ≡ done ++ rest
  pub limit : now.limit ≡ first.limit
  pub each : (log : List ℕ) → HasRead first log → HasRead now (log ++ done) × HasReceived agrees log done old new

pub begins : {S : Type 0} (agrees : S → List Placed → Type 0) (r : Reading) (piece : List ℕ) (sink : S) → Goes agrees r r piece piece sink sink
begins agrees r piece sink = record {
  done = [];
  is = refl;
  limit = refl;
  each = λ log keeps. (subst (HasRead r) (sym (append-nil log)) keeps, λ was. subst (λ (l : List ℕ). agrees sink (events l)) (sym (append-nil log)) was);
}

pub goes_on : {S : Type 0} (agrees : S → List Placed → Type 0) (first now next : Reading) (piece rest : List ℕ) (n : ℕ) (old mid new : S) → Goes agrees first now piece rest old mid
    → Comes agrees now next (take n rest) mid new → Goes agrees first next piece (drop n rest) old new
goes_on agrees first now next piece rest n old mid new goes comes = record {
  done = goes.done ++ take n rest;
  is = goes.is ∙ ap (λ (l : List ℕ). goes.done ++ l) (sym (take-append-drop n rest)) ∙ sym (append_assoc goes.done (take n rest) (drop n rest));
  limit = comes.advances.limit ∙ goes.limit;
  each = λ log keeps. (
      let before = goes.each log keeps in
      let assoc : (log ++ goes.done) ++ take n rest ≡ log ++ (goes.done ++ take n rest) = append_assoc log goes.done (take n rest) in (
        subst (HasRead next) assoc (keeps_on agrees now next (log ++ goes.done) (take n rest) mid new before.0 comes),
        λ was. subst (λ (l : List ℕ). agrees new (events l)) assoc (receives_on agrees now next (log ++ goes.done) (take n rest) mid new before.0 comes (before.1 was)),
      ));
}

-- At its end the loop has taken in the whole piece.
pub ends_kept : {S : Type 0} (agrees : S → List Placed → Type 0) (first now : Reading) (piece rest : List ℕ) (old new : S) → Goes agrees first now piece rest old new → rest ≡ []
    → (log : List ℕ) → HasRead first log → HasRead now (log ++ piece) × HasReceived agrees log piece old new
ends_kept agrees first now piece rest old new goes none log keeps =
    (let all : goes.done ≡ piece = sym (goes.is ∙ ap (λ (l : List ℕ). goes.done ++ l) none ∙ append-nil goes.done) in
    let here = goes.each log keeps in
    (subst (λ (l : List ℕ). HasRead now (log ++ l)) all here.0, subst (λ (l : List ℕ). HasReceived agrees log l old new) all here.1))

-- Why a byte isn't taken in after some bytes, seen from before them.
why_joined : {S : Type 0} (agrees : S → List Placed → Type 0) (refuses : S → List Placed → Refusal → Type 0) (limit : ℕ) (log done taken : List ℕ) (byte : ℕ) (old mid new : S) (refusal : Refusal)
    → HasReceived agrees log done old mid → Why agrees refuses limit (log ++ done) taken byte mid new refusal → Why agrees refuses limit log (done ++ taken) byte old new refusal
why_joined agrees refuses limit log done taken byte old mid new refusal before (inl x) =
    (let assoc : (log ++ done) ++ taken ≡ log ++ (done ++ taken) = append_assoc log done taken in
    inl (record {
      met = subst (λ (l : List ℕ). refusal_at limit l byte ≡ Some refusal) assoc x.met;
      receives = λ was. subst (λ (l : List ℕ). agrees new (events l)) assoc (x.receives (before was));
    }))
why_joined agrees refuses limit log done taken byte old mid new refusal before (inr (inl x)) =
    (let assoc : (log ++ done) ++ taken ≡ log ++ (done ++ taken) = append_assoc log done taken in
    inr (inl (record {
      unmet = subst (λ (l : List ℕ). refusal_at limit l byte ≡ None) assoc x.unmet;
      needs = subst (λ (l : List ℕ). NeedsMemory (packet_at l byte)) assoc x.needs;
      is = subst (λ (l : List ℕ). refusal ≡ refusals.Memory (length l)) assoc x.is;
      receives = λ was. subst (λ (l : List ℕ). agrees new (events l)) assoc (x.receives (before was));
    })))
why_joined agrees refuses limit log done taken byte old mid new refusal before (inr (inr x)) =
    (let assoc : (log ++ done) ++ taken ≡ log ++ (done ++ taken) = append_assoc log done taken in
    inr (inr (record {
      unmet = subst (λ (l : List ℕ). refusal_at limit l byte ≡ None) assoc x.unmet;
      completes = subst (λ (l : List ℕ). is_some (event_at l byte) ≡ true) assoc x.completes;
      own = x.own;
      refused = λ was. subst (λ (l : List ℕ). refuses new (events l) x.own) assoc (x.refused (before was));
      is = subst (λ (l : List ℕ). refusal ≡ moved x.own (length l)) assoc x.is;
    })))

-- What stops a step stops the piece.
pub stops_piece : {S : Type 0} (agrees : S → List Placed → Type 0) (refuses : S → List Placed → Refusal → Type 0) (first now : Reading) (piece rest : List ℕ) (old mid new : S) (refusal : Refusal)
    → Goes agrees first now piece rest old mid → StepStops (Declines agrees refuses) now rest mid new refusal → (log : List ℕ) → HasRead first log
    → Stops agrees refuses first.limit log piece old new refusal
stops_piece agrees refuses first now piece rest old mid new refusal goes stop log keeps =
    (let before = goes.each log keeps in
    let here = stopped agrees refuses now (log ++ goes.done) before.0 rest mid new refusal stop in
    let assoc : (log ++ goes.done) ++ here.taken ≡ log ++ (goes.done ++ here.taken) = append_assoc log goes.done here.taken in
    record {
      taken = goes.done ++ here.taken;
      byte = here.byte;
      later = here.later;
      is = goes.is ∙ ap (λ (l : List ℕ). goes.done ++ l) here.is ∙ sym (append_assoc goes.done here.taken (here.byte ∷ here.later));
      unrefused = ap (λ (l : List ℕ). refused first.limit l) (sym assoc) ∙ ap (λ (n : ℕ). refused n ((log ++ goes.done) ++ here.taken)) (sym goes.limit) ∙ here.unrefused;
      why = subst (λ (limit : ℕ). Why agrees refuses limit log (goes.done ++ here.taken) here.byte old new refusal) goes.limit
          (why_joined agrees refuses now.limit log goes.done here.taken here.byte old mid new refusal before.1 here.why);
    })

-- the bytes before the one that stops the piece
pub stops_piece-taken : {S : Type 0} (agrees : S → List Placed → Type 0) (refuses : S → List Placed → Refusal → Type 0) (first now : Reading) (piece rest : List ℕ) (old mid new : S) (refusal : Refusal)
    (goes : Goes agrees first now piece rest old mid) (stop : StepStops (Declines agrees refuses) now rest mid new refusal) (log : List ℕ) (keeps : HasRead first log)
    → (stops_piece agrees refuses first now piece rest old mid new refusal goes stop log keeps).taken ≡ goes.done ++ stop.taken
unfolding stops_piece stopped
stops_piece-taken agrees refuses first now piece rest old mid new refusal goes stop log keeps = refl

-- all that is after the first bytes
pub rest_same : (n : ℕ) (rest : List ℕ) → take (length rest - n) (drop n rest) ≡ drop n rest
rest_same n rest = (let after_bytes : length (drop n rest) ≡ length rest - n = length-drop n rest in take_all (length rest - n) (drop n rest) (omega arith))

pub nothing_left : (rest : List ℕ) (empty : Bool) → empty ≡ (length rest == 0) → empty ≡ true → rest ≡ []
nothing_left rest empty emitted is = nil_from_length rest (eqb-true (length rest) 0 (sym emitted ∙ is))

-- What a reader knows of the log that it keeps.
pub kept_at : (r : Reading) (log : List ℕ) → HasRead r log → r.at ≡ length log
kept_at r log keeps = ap (λ (c : Context). c.at) (sym keeps.kept) ∙ at_context log

pub kept_header : (r : Reading) (log : List ℕ) → HasRead r log → r.header ≡ header_by log
kept_header r log keeps = ap (λ (c : Context). c.header) (sym keeps.kept ∙ context_is log)

pub kept_unfinished : (r : Reading) (log : List ℕ) → HasRead r log → left_at_end log ≡ left_if r.connections.connected (unfinished_by r)
kept_unfinished r log keeps =
    ap (λ (b : Bool). left_if b (unfinished_at log)) (sym (connected_context log))
    ∙ ap (left_if (context log).connected) (unfinished-kept log)
    ∙ ap (λ (c : Context). left_if c.connected (unfinished_of c)) keeps.kept

-- a part of a record is there, or none is, as the stage says
part_there : (ahead moment : ℕ) (stage : Stage) (part : List ℕ) → length_end ≤ ahead → IsAt ahead moment stage part → nat_lt 0 (length part) ≡ not (is_between stage)
part_there ahead moment stages.Between part least at = ap (λ (p : List ℕ). nat_lt 0 (length p)) at
part_there ahead moment (stages.Head head) part least at = ap (λ (p : List ℕ). nat_lt 0 (length p)) at.2 ∙ lt-ltb 0 (length (at.0 ∷ at.1)) (omega arith)
part_there ahead moment (stages.Moment kind number count) part least at = lt-ltb 0 (length part) (omega (arith, at.2))
part_there ahead moment (stages.Body direction left) part least at = lt-ltb 0 (length part) (omega (arith, at.3, least))
part_there ahead moment (stages.Release None) part least at = lt-ltb 0 (length part) (omega (arith, at.1, least))
part_there ahead moment (stages.Release (Some high)) part least at = lt-ltb 0 (length part) (omega (arith, at.1, least))

-- Whether the log would be cut short, if it ended here.
pub kept_cut : (r : Reading) (log : List ℕ) → HasRead r log → is_cut_short log ≡ (nat_lt r.at 8 || not (is_between r.stage))
unfolding is_cut_short
kept_cut r log keeps =
    (let part : (records log).rest ≡ keeps.part = sym (part_context log) ∙ ap (λ (c : Context). c.part) keeps.kept in
    ap (λ (n : ℕ). nat_lt n 8 || nat_lt 0 (length (records log).rest)) (sym (kept_at r log keeps))
    ∙ ap (λ (p : List ℕ). nat_lt r.at 8 || nat_lt 0 (length p)) part
    ∙ ap (λ (b : Bool). nat_lt r.at 8 || b) (part_there (head_length r.header.version) r.moment r.stage keeps.part (head_least r.header.version) keeps.stands))

-- a new reader keeps the log of no bytes
pub keeps_nothing : (r : Reading) → r.stage ≡ stages.Between → context_of r [] ≡ fresh → HasRead r []
keeps_nothing r between kept = record {
  unrefused = refused-nothing r.limit;
  part = [];
  stands = subst (λ (s : Stage). IsAt (head_length r.header.version) r.moment s []) (sym between) refl;
  kept = context-nothing ∙ sym kept;
}

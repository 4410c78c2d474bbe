-- What a step of a log's reader does: its states, one after the other.
use Rattle.std.proofs.Common.{◌≡◌, ℕ, ◌+◌, ◌≤◌, List, [], ◌∷◌, ◌++◌, length, Option, refl, sym, ◌∙◌, ap, subst, arith, take, drop, append_assoc, length-append}
use Rattle.std.specs.Prelude.{slice_index}
use Rattle.std.proofs.lemmas.List.{append-nil, take-append-drop}
use Rattle.std.specs.Option.{option_or}
use Rattle.mq_log.specs.Framing.{length_end}
use Rattle.mq_log.specs.declared.refusal.Refusal.{Refusal}
use Rattle.mq_trace.specs.declared.reading.Reading.{Reading}
use Rattle.mq_log.specs.Events.{Placed}
use Rattle.mq_log.specs.Context.{so_far_for}
use Rattle.mq_trace.specs.Runs.{after_bytes, refused_in, events_by}
use Rattle.mq_log.specs.Reception.{AreEvents}
use Rattle.mq_trace.specs.Deframing.{FlowWhy}
use Rattle.mq_trace.specs.Keeping.{context_of, Advances, Comes, StepStops}
use Rattle.mq_trace.proofs.RunLaws.{after_bytes_append, refused_append, events_append}

-- One step after another.
pub advanced : (r r1 r2 : Reading) (a b : List ℕ) (h k : List Placed) → Advances r r1 a h → Advances r1 r2 b k → Advances r r2 (a ++ b) (k ++ h)
advanced r r1 r2 a b h k first second = record {
  limit = second.limit ∙ first.limit;
  each = λ part at. (
      let f = first.each part at in
      let g = second.each f.0 f.1 in (
        g.0,
        g.1,
        refused_append r.limit (context_of r part) a b
            ∙ ap (λ o. option_or o (refused_in r.limit (after_bytes (context_of r part) a) b)) f.2
            ∙ ap (λ c. refused_in r.limit c b) f.3
            ∙ ap (λ limit. refused_in limit (context_of r1 f.0) b) (sym first.limit)
            ∙ g.2,
        after_bytes_append (context_of r part) a b ∙ ap (λ c. after_bytes c b) f.3 ∙ g.3,
        events_append (context_of r part) a b ∙ ap (λ c. events_by c b ++ events_by (context_of r part) a) f.3 ∙ ap (λ past. past ++ events_by (context_of r part) a) g.4 ∙ ap (λ past. k ++ past) f.4,
      ));
}

-- A quiet step, and one that completes an event.
pub comes_after : {S : Type 0} (agrees : S → List Placed → Type 0) (r r1 r2 : Reading) (a b : List ℕ) (old new : S)
    → Advances r r1 a [] → Comes agrees r1 r2 b old new → Comes agrees r r2 (a ++ b) old new
comes_after agrees r r1 r2 a b old new quiet comes = record {
  completed = comes.completed;
  advances = (let both = advanced r r1 r2 a b [] comes.completed quiet comes.advances in rw append-nil at both);
  emitted = comes.emitted;
}

-- A quiet step by itself.
pub comes_quietly : {S : Type 0} (agrees : S → List Placed → Type 0) (r r1 : Reading) (a : List ℕ) (sink : S)
    → Advances r r1 a [] → Comes agrees r r1 a sink sink
comes_quietly agrees r r1 a sink quiet = record {
  completed = [];
  advances = quiet;
  emitted = λ earlier agree are. agree;
}

-- A step that completes one event.
pub comes_emission : {S : Type 0} (agrees : S → List Placed → Type 0) (r r1 : Reading) (a : List ℕ) (old new : S) (e : Placed)
    → Advances r r1 a (e ∷ []) → ((earlier : List Placed) → agrees old earlier → AreEvents (e ∷ earlier) → agrees new (e ∷ earlier)) → Comes agrees r r1 a old new
comes_emission agrees r r1 a old new e step emitted = record {
  completed = e ∷ [];
  advances = step;
  emitted = emitted;
}

-- A quiet step, and one that stops.
pub stops_after : {S : Type 0} (declines : S → S → List Placed → Refusal → Type 0) (r r1 : Reading) (a b : List ℕ) (old new : S) (refusal : Refusal)
    → Advances r r1 a [] → r1.at ≡ r.at + length a → StepStops declines r1 b old new refusal → StepStops declines r (a ++ b) old new refusal
stops_after declines r r1 a b old new refusal quiet moved stop = record {
  taken = a ++ stop.taken;
  byte = stop.byte;
  later = stop.later;
  is = ap (λ bytes. a ++ bytes) stop.is ∙ sym (append_assoc a stop.taken (stop.byte ∷ stop.later));
  each = λ part at. (
      let f = quiet.each part at in
      let g = stop.each f.0 f.1 in
      let c = context_of r part in
      let refused : (bytes : List ℕ) → refused_in r.limit c (a ++ bytes) ≡ refused_in r1.limit (context_of r1 f.0) bytes = λ bytes.
      refused_append r.limit c a bytes
      ∙ ap (λ o. option_or o (refused_in r.limit (after_bytes c a) bytes)) f.2
      ∙ ap (λ d. refused_in r.limit d bytes) f.3
      ∙ ap (λ limit. refused_in limit (context_of r1 f.0) bytes) (sym quiet.limit) in
      let completed : (bytes : List ℕ) → events_by c (a ++ bytes) ≡ events_by (context_of r1 f.0) bytes = λ bytes.
      events_append c a bytes
      ∙ ap (λ d. events_by d bytes ++ events_by c a) f.3
      ∙ ap (λ past. events_by (context_of r1 f.0) bytes ++ past) f.4
      ∙ append-nil (events_by (context_of r1 f.0) bytes) in
      let last : (a ++ stop.taken) ++ stop.byte ∷ [] ≡ a ++ (stop.taken ++ stop.byte ∷ []) = append_assoc a stop.taken (stop.byte ∷ []) in
      let whole = stop.taken ++ stop.byte ∷ [] in
      let place : r1.at + length stop.taken ≡ r.at + length (a ++ stop.taken) = (let l = length-append a stop.taken in omega arith) in (
        refused stop.taken ∙ g.0,
        completed stop.taken ∙ g.1,
        same_why declines old new refusal place (ap (λ d. so_far_for d stop.byte) (sym (after_bytes_append c a stop.taken ∙ ap (λ d. after_bytes d stop.taken) f.3))) (sym (refused whole) ∙ ap (refused_in r.limit c) (sym last)) (sym (completed whole) ∙ ap (events_by c) (sym last)) g.2,
      ));
}
  where
    same_why : {S : Type 0} (declines : S → S → List Placed → Refusal → Type 0) (old new : S) (refusal : Refusal) {at at' : ℕ} {so_far so_far' : List ℕ} {met met' : Option Refusal} {completed completed' : List Placed}
        → at ≡ at' → so_far ≡ so_far' → met ≡ met' → completed ≡ completed' → FlowWhy declines at so_far met completed old new refusal → FlowWhy declines at' so_far' met' completed' old new refusal
    same_why declines old new refusal {at} {at'} {so_far} {so_far'} {met} {met'} {completed} {completed'} p w q s why =
        subst (λ n. FlowWhy declines n so_far' met' completed' old new refusal) p
        (subst (λ t. FlowWhy declines at t met' completed' old new refusal) w
        (subst (λ o. FlowWhy declines at so_far o completed' old new refusal) q
        (subst (λ l. FlowWhy declines at so_far met l old new refusal) s why)))

-- It doesn't matter what follows.
pub stops_longer : {S : Type 0} (declines : S → S → List Placed → Refusal → Type 0) (r : Reading) (a b : List ℕ) (old new : S) (refusal : Refusal)
    → StepStops declines r a old new refusal → StepStops declines r (a ++ b) old new refusal
stops_longer declines r a b old new refusal stop = record {
  taken = stop.taken;
  byte = stop.byte;
  later = stop.later ++ b;
  is = ap (λ bytes. bytes ++ b) stop.is ∙ append_assoc stop.taken (stop.byte ∷ stop.later) b;
  each = stop.each;
}

-- The bytes at the front of a piece.
pub first_of : (bytes : List ℕ) → 1 ≤ length bytes → slice_index bytes 0 ∷ [] ≡ take 1 bytes
first_of [] some = absurd (omega arith)
first_of (x ∷ bytes) some = refl

pub five_of : (bytes : List ℕ) → length_end ≤ length bytes → slice_index bytes 0 ∷ slice_index bytes 1 ∷ slice_index bytes 2 ∷ slice_index bytes 3 ∷ slice_index bytes 4 ∷ [] ≡ take length_end bytes
five_of [] some = absurd (omega arith)
five_of (k ∷ []) some = absurd (omega arith)
five_of (k ∷ x ∷ []) some = absurd (omega arith)
five_of (k ∷ x ∷ y ∷ []) some = absurd (omega arith)
five_of (k ∷ x ∷ y ∷ z ∷ []) some = absurd (omega arith)
five_of (k ∷ x ∷ y ∷ z ∷ b ∷ bytes) some = refl

-- A step that takes the first bytes of a piece in, and one that stops at one of them.
pub comes_front : {S : Type 0} (agrees : S → List Placed → Type 0) (r r1 : Reading) (front bytes : List ℕ) (n : ℕ) (old new : S) → front ≡ take n bytes
    → Comes agrees r r1 front old new → Comes agrees r r1 (take n bytes) old new
comes_front agrees r r1 front bytes n old new is comes = subst (λ (l : List ℕ). Comes agrees r r1 l old new) is comes

pub stops_front : {S : Type 0} (declines : S → S → List Placed → Refusal → Type 0) (r : Reading) (front bytes : List ℕ) (n : ℕ) (old new : S) (refusal : Refusal) → front ≡ take n bytes
    → StepStops declines r front old new refusal → StepStops declines r bytes old new refusal
stops_front declines r front bytes n old new refusal is stop =
    subst (λ (l : List ℕ). StepStops declines r l old new refusal) (take-append-drop n bytes)
    (stops_longer declines r (take n bytes) (drop n bytes) old new refusal (subst (λ (l : List ℕ). StepStops declines r l old new refusal) is stop))

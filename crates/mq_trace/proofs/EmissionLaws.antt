-- A step that emits an event to a sink, by what came of it.
use Rattle.std.proofs.Common.{◌≡◌, ℕ, ◌+◌, List, [], ◌∷◌, ◌++◌, length, None, Result, Ok, Err, OnOk, IfErr, sym, subst}
use Rattle.mq_log.specs.declared.refusal.Refusal.{Refusal}
use Rattle.mq_trace.specs.declared.reading.Reading.{Reading}
use Rattle.mq_log.specs.Events.{Event, Placed}
use Rattle.mq_log.specs.Reception.{AreEvents}
use Rattle.mq_trace.specs.Emission.{event_refusal, next_placed, NotEmitted}
use Rattle.mq_trace.specs.Keeping.{Advances, Comes, StepStops}
use Rattle.mq_trace.specs.Stepping.{in_record_of, marked}
use Rattle.mq_trace.proofs.ReadingLaws.{comes_emission, comes_after, stops_after}
use Rattle.mq_trace.proofs.StageLaws.{stops_unemitted}
use Rattle.mq_trace.proofs.EndLaws.{CompletesEvent, emits_advances}

pub emitted_comes : {S A : Type 0} (agrees : S → List Placed → Type 0) (r r' : Reading) (moment b : ℕ) (event : Event) (old new : S) (result : Result A Refusal) → CompletesEvent r moment b event
    → OnOk result (event_refusal r.at r.header.server r.connections event ≡ None) → OnOk result (r' ≡ marked r event)
    → ((earlier : List Placed) → agrees old earlier → AreEvents (next_placed r.connections (in_record_of r moment) event ∷ earlier) → OnOk result (agrees new (next_placed r.connections (in_record_of r moment) event ∷ earlier)))
    → OnOk result (Comes agrees r r' (b ∷ []) old new)
emitted_comes agrees r r' moment b event old new (Ok a) emits met kept receives =
    subst (λ (x : Reading). Comes agrees r x (b ∷ []) old new) (sym kept)
    (comes_emission agrees r (marked r event) (b ∷ []) old new (next_placed r.connections (in_record_of r moment) event) (emits_advances r moment b event emits met) receives)
emitted_comes agrees r r' moment b event old new (Err refusal) emits met kept receives = tt

pub emitted_stops : {S A : Type 0} (declines : S → S → List Placed → Refusal → Type 0) (r : Reading) (moment b : ℕ) (event : Event) (old new : S) (result : Result A Refusal) → CompletesEvent r moment b event
    → IfErr result (λ refusal. NotEmitted declines r.at (event_refusal r.at r.header.server r.connections event) (next_placed r.connections (in_record_of r moment) event ∷ []) old new refusal)
    → IfErr result (λ refusal. StepStops declines r (b ∷ []) old new refusal)
emitted_stops declines r moment b event old new (Ok a) emits unemitted = tt
emitted_stops declines r moment b event old new (Err refusal) emits unemitted =
    stops_unemitted declines r b (event_refusal r.at r.header.server r.connections event) (next_placed r.connections (in_record_of r moment) event) old new refusal (λ part at. (let emitted = emits part at in (emitted.0, emitted.1))) unemitted

-- What comes after a quiet step.
pub result_comes : {S A : Type 0} (agrees : S → List Placed → Type 0) (r r1 r2 : Reading) (a b : List ℕ) (old new : S) (result : Result A Refusal) → Advances r r1 a []
    → OnOk result (Comes agrees r1 r2 b old new) → OnOk result (Comes agrees r r2 (a ++ b) old new)
result_comes agrees r r1 r2 a b old new (Ok x) quiet comes = comes_after agrees r r1 r2 a b old new quiet comes
result_comes agrees r r1 r2 a b old new (Err refusal) quiet comes = tt

pub result_stops : {S A : Type 0} (declines : S → S → List Placed → Refusal → Type 0) (r r1 : Reading) (a b : List ℕ) (old new : S) (result : Result A Refusal) → Advances r r1 a [] → r1.at ≡ r.at + length a
    → IfErr result (λ refusal. StepStops declines r1 b old new refusal) → IfErr result (λ refusal. StepStops declines r (a ++ b) old new refusal)
result_stops declines r r1 a b old new (Ok x) quiet moved stops = tt
result_stops declines r r1 a b old new (Err refusal) quiet moved stops = stops_after declines r r1 a b old new refusal quiet moved stops

-- The result of feeding a tracer and its sink if a byte is refused.
use Rattle.std.specs.Prelude.{◌≡◌, ℕ, Bool, true, List, ◌∷◌, ◌++◌, ◌⊎◌, None}
use Rattle.mq_log.specs.declared.refusal.Refusal.{Refusal}
use Rattle.mq_log.specs.Events.{Placed, events}
use Rattle.mq_log.specs.Refusals.{refused}
use Rattle.mq_trace.specs.Tracing.{Traced, IsTracedTo}
use Rattle.mq_report.specs.Stopping.{IsRefusedByte}
use Rattle.mq_display.specs.Views.{IsForeseen}

-- A byte of a piece that follows a log is refused, and nothing is refused before that byte. If the log is timed as was foreseen, the sink has received all
-- events before it, and may have refused the one that this byte completes.
pub record TraceStops {S : Type 0} (received : S → List Placed → Type 0) (refuses : S → List Placed → Refusal → Type 0) (foreseen : Bool) (limit : ℕ) (sink : S)
    (log piece : List ℕ) (refusal : Refusal) : Type 0 where
  pub taken : List ℕ
  pub byte : ℕ
  pub later : List ℕ
  pub is : piece ≡ taken ++ byte ∷ later
  pub unrefused : refused limit (log ++ taken) ≡ None
  pub why : IsForeseen foreseen (log ++ taken) → (IsRefusedByte limit (log ++ taken) byte refusal × received sink (events (log ++ taken)))
      ⊎ ((own : Refusal) × refuses sink (events (log ++ taken)) own)

-- A piece that follows a log was taken in whole, and the sink has failed. If the log is timed as was foreseen, it has received all events so far.
pub record HasFailedIn {S : Type 0} (received : S → List Placed → Type 0) (has_failed : S → Bool) (foreseen : Bool) (limit : ℕ) (sink : S) (log piece : List ℕ) : Type 0 where
  pub unrefused : refused limit (log ++ piece) ≡ None
  pub received_all : IsForeseen foreseen (log ++ piece) → received sink (events (log ++ piece))
  pub failed : has_failed sink ≡ true

-- A tracer has taken in this log, and refused none of it. If the log is timed as was foreseen, the sink has received all events so far.
abbrev pub IsShown : {S : Type 0} → (S → List Placed → Type 0) → (foreseen : Bool) → Traced → S → List ℕ → Type 0
IsShown received foreseen tracer sink log = IsTracedTo tracer log × (IsForeseen foreseen log → received sink (events log))

-- Why nothing after this piece is taken in: a byte of it is refused, or the sink has failed.
abbrev pub ShowStops : {S : Type 0} → (S → List Placed → Type 0) → (S → List Placed → Refusal → Type 0) → (S → Bool) → (foreseen : Bool) → ℕ → S → List ℕ → List ℕ → Refusal → Type 0
ShowStops received refuses has_failed foreseen limit sink log piece refusal =
    TraceStops received refuses foreseen limit sink log piece refusal ⊎ HasFailedIn received has_failed foreseen limit sink log piece

-- The state of a tracer, and what its calls return.
use Rattle.std.specs.Prelude.{◌≡◌, ℕ, ◌<◌, ◌≤◌, nat_lt, ◌⊎◌, Bool, true, false, cond, List, [], ◌∷◌, ◌++◌, length, Option, Some, None, is_some, Result, Ok, Err}
use Rattle.mq_log.specs.declared.refusal.Refusal.{Refusal}
use Rattle.mq_log.specs.declared.refusal.Refusal.TheVariants as refusals
use Rattle.mq_trace.specs.declared.stage.Stage.{Stage}
use Rattle.mq_trace.specs.declared.stage.Stage.TheVariants as stages
use Rattle.mq_trace.specs.declared.reading.Reading.{Reading}
use Rattle.mq_log.specs.Framing.{header_by}
use Rattle.mq_log.specs.Events.{UnfinishedPackets, Placed, events, event_at, packet_at, unfinished_at}
use Rattle.mq_log.specs.Connections.{has_open_connection}
use Rattle.mq_log.specs.Refusals.{refused, refusal_at, is_cut_short}
use Rattle.mq_log.specs.Refusing.{moved}
use Rattle.mq_log.specs.Context.{context}
use Rattle.mq_trace.specs.Deframing.{NeedsMemory}
use Rattle.mq_trace.specs.Keeping.{StandsAt, context_of}

-- a tracer: the refusal that it reported, if any, and what it keeps of the log
pub record Traced : Type 0 where
  pub refusal : Option Refusal
  pub reading : Reading

-- This is what is kept of the log, and the log isn't refused.
pub record HasRead (r : Reading) (log : List ℕ) : Type 0 where
  pub unrefused : refused r.limit log ≡ None
  pub part : List ℕ
  pub stands : StandsAt r part
  pub kept : context log ≡ context_of r part

-- The tracer has taken in this log, and refused none of it.
pub record IsTracedTo (tracer : Traced) (log : List ℕ) : Type 0 where
  pub open_yet : tracer.refusal ≡ None
  pub keeps : HasRead tracer.reading log

-- What the reader keeps of the log's header is what these bytes say: whether it is whole, and then what it names.
pub record KeepsHeader (r : Reading) (taken : List ℕ) : Type 0 where
  pub whole : nat_lt r.at 8 ≡ nat_lt (length taken) 8
  pub named : 8 ≤ length taken → r.header ≡ header_by taken

-- A sink that had received the events of the log has received those of the log with these bytes after it.
abbrev pub HasReceived : {S : Type 0} → (S → List Placed → Type 0) → List ℕ → List ℕ → S → S → Type 0
HasReceived agrees log bytes old new = agrees old (events log) → agrees new (events (log ++ bytes))

-- The byte after these is refused: this is the lowest of the refusals whose conditions apply at it. The sink has received all events before the byte, and none of it.
pub record IsRefused {S : Type 0} (agrees : S → List Placed → Type 0) (limit : ℕ) (log bytes : List ℕ) (byte : ℕ) (old new : S) (refusal : Refusal) : Type 0 where
  pub met : refusal_at limit (log ++ bytes) byte ≡ Some refusal
  pub receives : HasReceived agrees log bytes old new

-- There was no memory for the byte after these, at which no refusal's condition applies. It belongs to a packet, of which more is to come. The sink has received
-- all events before the byte, and none of it.
pub record LacksMemory {S : Type 0} (agrees : S → List Placed → Type 0) (limit : ℕ) (log bytes : List ℕ) (byte : ℕ) (old new : S) (refusal : Refusal) : Type 0 where
  pub unmet : refusal_at limit (log ++ bytes) byte ≡ None
  pub needs : NeedsMemory (packet_at (log ++ bytes) byte)
  pub is : refusal ≡ refusals.Memory (length (log ++ bytes))
  pub receives : HasReceived agrees log bytes old new

-- The sink refused the event that the byte after these completes, at which no refusal's condition applies. If it had received the events of the log, it is in
-- the state of having refused after all events before the byte.
pub record SinkRefuses {S : Type 0} (agrees : S → List Placed → Type 0) (refuses : S → List Placed → Refusal → Type 0) (limit : ℕ) (log bytes : List ℕ) (byte : ℕ) (old new : S)
    (refusal : Refusal) : Type 0 where
  pub unmet : refusal_at limit (log ++ bytes) byte ≡ None
  pub completes : is_some (event_at (log ++ bytes) byte) ≡ true
  pub own : Refusal
  pub refused : agrees old (events log) → refuses new (events (log ++ bytes)) own
  pub is : refusal ≡ moved own (length (log ++ bytes))

-- Why a byte isn't taken in, after a log and these bytes.
abbrev pub Why : {S : Type 0} → (S → List Placed → Type 0) → (S → List Placed → Refusal → Type 0) → ℕ → List ℕ → List ℕ → ℕ → S → S → Refusal → Type 0
Why {S} agrees refuses limit log bytes byte old new refusal =
    IsRefused agrees limit log bytes byte old new refusal
    ⊎ LacksMemory agrees limit log bytes byte old new refusal
    ⊎ SinkRefuses agrees refuses limit log bytes byte old new refusal

-- A piece after a log isn't all taken in: one byte of it isn't, and all before it are.
pub record Stops {S : Type 0} (agrees : S → List Placed → Type 0) (refuses : S → List Placed → Refusal → Type 0) (limit : ℕ) (log piece : List ℕ) (old new : S) (refusal : Refusal) : Type 0 where
  pub taken : List ℕ
  pub byte : ℕ
  pub later : List ℕ
  pub is : piece ≡ taken ++ byte ∷ later
  pub unrefused : refused limit (log ++ taken) ≡ None
  pub why : Why agrees refuses limit log taken byte old new refusal

-- A piece after a log isn't all taken in, and the tracer keeps what the bytes before the one that isn't say of the header.
abbrev pub StopsAt : {S : Type 0} → (S → List Placed → Type 0) → (S → List Placed → Refusal → Type 0) → ℕ → List ℕ → List ℕ → S → S → Reading → Refusal → Type 0
StopsAt agrees refuses limit log piece old new reading refusal = (stops : Stops agrees refuses limit log piece old new refusal) × KeepsHeader reading (log ++ stops.taken)

-- A piece stops at a byte of the log's header, where no sink is asked.
abbrev pub StopsInHeader : ℕ → List ℕ → List ℕ → Reading → Refusal → Type 0
StopsInHeader limit log piece reading refusal =
    (stops : StopsAt {S = Unit {0}} (λ _ _. Unit {0}) (λ _ _ _. ⊥) limit log piece tt tt reading refusal) × (length (log ++ stops.0.taken) < 8)

-- What feeding a piece after a log returns.
abbrev pub TracesPiece : {S : Type 0} → (S → List Placed → Type 0) → (S → List Placed → Refusal → Type 0) → ℕ → List ℕ → List ℕ → S → S → Result (Unit {0}) Refusal → Type 0
TracesPiece agrees refuses limit log piece old new (Ok _) = (refused limit (log ++ piece) ≡ None) × HasReceived agrees log piece old new
TracesPiece agrees refuses limit log piece old new (Err refusal) = Stops agrees refuses limit log piece old new refusal

-- A tracer has taken in these bytes of a piece after a log, which complete no event, and this is the rest of the piece. It is empty unless the header is whole.
pub record Begins (tracer : Traced) (log piece rest : List ℕ) : Type 0 where
  pub taken : List ℕ
  pub is : piece ≡ taken ++ rest
  pub follows : IsTracedTo tracer (log ++ taken)
  pub no_event : events (log ++ taken) ≡ events log
  pub whole : (8 ≤ length (log ++ taken)) ⊎ (rest ≡ [])

-- What ending a log that wasn't refused returns.
abbrev pub Ends : List ℕ → Result (Unit {0}) Refusal → Type 0
Ends log (Ok _) = is_cut_short log ≡ false
Ends log (Err refusal) = (refusal ≡ refusals.Cut (length log)) × (is_cut_short log ≡ true)

-- what is unfinished, if the connection is open; once that is closed, nothing is left of it
abbrev pub left_if : Bool → UnfinishedPackets → UnfinishedPackets
left_if connected unfinished = cond connected unfinished (record { sent = []; received = [] })

-- what the end of a log leaves unfinished (MQTT 5.0, section 2.1)
abbrev pub left_at_end : List ℕ → UnfinishedPackets
left_at_end log = left_if (has_open_connection (events log)) (unfinished_at log)

-- the stage is between two records
abbrev pub is_between : Stage → Bool
is_between stages.Between = true
is_between _ = false

-- The result of feeding everything that a reader gives, until its end.
use Rattle.std.specs.Prelude.{◌≡◌, ◌≤◌, ℕ, List, [], ◌++◌, length, ⊤, Option}
use Rattle.std.specs.Io.KnownBytes.{Consumes, IsAtEnd}
use Rattle.mq_log.specs.declared.refusal.Refusal.{Refusal}
use Rattle.mq_log.specs.declared.refusal.Refusal.TheVariants as refusals
use Rattle.mq_trace.specs.declared.feeding.Halt.{Halt}
use Rattle.mq_trace.specs.declared.feeding.Halt.TheVariants as halts

-- The feeder follows all that the reader had left, with this limit on packets, and the sink has received what is in it.
pub record FedAll {F S : Type 0} (limit : F → ℕ) (follows : F → S → List ℕ → Type 0) (first : ℕ) (old new : Option (List ℕ)) (fed : F) (sink : S) : Type 0 where
  pub log : List ℕ
  pub consumed : Consumes old new log
  pub ended : IsAtEnd new
  pub followed : follows fed sink log
  pub within : limit fed ≡ first

-- Nothing of the next piece was fed, and the feeder follows these bytes, which are so many.
abbrev pub HasFed : {F S : Type 0} → (F → ℕ) → (F → S → List ℕ → Type 0) → ℕ → F → S → List ℕ → List ℕ → ℕ → Type 0
HasFed limit follows first fed sink log piece count = (piece ≡ []) × follows fed sink log × (limit fed ≡ first) × (count ≡ length log)

-- Why feeding halted after these bytes: the feeder stopped at a byte of the next piece, or nothing more could be read.
abbrev pub WhyHalted : {F S E : Type 0} → (F → ℕ) → (F → S → List ℕ → Type 0) → (ℕ → F → S → List ℕ → List ℕ → E → Type 0) → ℕ → F → S → List ℕ → List ℕ → Halt E → Type 0
WhyHalted limit follows stops first fed sink log piece (halts.Stopped why) = stops first fed sink log piece why
WhyHalted limit follows stops first fed sink log piece (halts.Failed count) = HasFed limit follows first fed sink log piece count
WhyHalted limit follows stops first fed sink log piece (halts.RanOut count) = HasFed limit follows first fed sink log piece count

-- The feeder followed some of what the reader had left, and then feeding halted.
pub record FedSome {F S E : Type 0} (limit : F → ℕ) (follows : F → S → List ℕ → Type 0) (stops : ℕ → F → S → List ℕ → List ℕ → E → Type 0) (first : ℕ)
    (old new : Option (List ℕ)) (fed : F) (sink : S) (halt : Halt E) : Type 0 where
  pub log : List ℕ
  pub piece : List ℕ
  pub consumed : Consumes old new (log ++ piece)
  pub why : WhyHalted limit follows stops first fed sink log piece halt

-- At most this many bytes were taken from what a reader had left.
pub record TakesAtMost (most : ℕ) (old new : Option (List ℕ)) : Type 0 where
  pub bytes : List ℕ
  pub consumed : Consumes old new bytes
  pub few : length bytes ≤ most

-- with this many turns left, feeding ran out of turns only where it is 0
abbrev pub RunsOutAt : {E : Type 0} → ℕ → Halt E → Type 0
RunsOutAt left (halts.Stopped why) = ⊤
RunsOutAt left (halts.Failed count) = ⊤
RunsOutAt left (halts.RanOut count) = left ≡ 0

-- the refusal of a log whose feeding halted: the feeder's own, or that no more could be read
abbrev pub refusal_of : Halt Refusal → Refusal
refusal_of (halts.Stopped refusal) = refusal
refusal_of (halts.Failed count) = refusals.Read count
refusal_of (halts.RanOut count) = refusals.Read count

-- What a cursor has left to read, before and after a call.
use Rattle.std.specs.Prelude.{◌≡◌, ℕ, ◌+◌, List, drop, Result, Ok, Err}
use Rattle.mq_wire.specs.declared.fault.Reason.{Reason}
use Rattle.mq_wire.specs.declared.fault.WireFault.{WireFault}

-- The bytes that are left, and the offset of the first of them.
pub record Left : Type 0 where
  pub at : ℕ
  pub rest : List ℕ

-- What is left after the first n bytes.
abbrev pub past : Left → ℕ → Left
past left n = record { at = left.at + n; rest = drop n left.rest }

-- The value that was read at the front of what is left, with what is left after it; or the fault, with its offset.
abbrev pub placed : {X : Type 0} → Left → Result (X × ℕ) Reason → Result (X × Left) WireFault
placed left (Ok x) = Ok (x.0, past left x.1)
placed left (Err reason) = Err (record { at = left.at; reason = reason })

-- The call returns what was read: its value, and the cursor is past it; or its fault, and the cursor has
-- not moved.
abbrev pub Took : {X Y : Type 0} → (X → Y) → Result X WireFault → Left → Result (Y × Left) WireFault → Left → Type 0
Took view (Ok x) old read new = read ≡ Ok (view x, new)
Took view (Err fault) old read new = (read ≡ Err fault) × (new ≡ old)

-- The call returns this value, as `view` sees it, or this error.
abbrev pub Gives : {E X Y : Type 0} → (X → Y) → Result X E → Result Y E → Type 0
Gives view (Ok x) read = read ≡ Ok (view x)
Gives view (Err error) read = read ≡ Err error

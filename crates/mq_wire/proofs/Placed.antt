-- What a call of a cursor says of the reading after it.
use Rattle.std.proofs.Common.{◌≡◌, ℕ, Result, Ok, Err, ap, sym}
use Rattle.mq_wire.specs.declared.fault.Reason.{Reason}
use Rattle.mq_wire.specs.declared.fault.WireFault.{WireFault}
use Rattle.mq_wire.specs.Left.{Left, past, placed}

-- equal values of two successes
pub ok_is : {X E : Type 0} (x y : X) → (let r : Result X E = Ok x in r) ≡ Ok y → x ≡ y
ok_is x y e = cc

-- a value was read: it and how many bytes it takes, and the cursor is past them
pub placed_ok : {X : Type 0} (left : Left) (read : Result (X × ℕ) Reason) (x : X) (new : Left) → placed left read ≡ Ok (x, new) → (n : ℕ) × (read ≡ Ok (x, n)) × (new ≡ past left n)
placed_ok {X} left (Ok y) x new e =
    let made : X × Left = (y.0, past left y.1) in
    let found : X × Left = (x, new) in
    let same : made ≡ found = cc in
    (y.1, ap (λ (z : X). Ok (z, y.1)) (ap (λ (z : X × Left). z.0) same), sym (ap (λ (z : X × Left). z.1) same))
placed_ok left (Err reason) x new e = absurd cc

-- a field was refused: for this reason, where the cursor stands
pub placed_err : {X : Type 0} (left : Left) (read : Result (X × ℕ) Reason) (fault : WireFault) → placed left read ≡ Err fault → (read ≡ Err fault.reason) × (fault.at ≡ left.at)
placed_err left (Ok y) fault e = absurd cc
placed_err left (Err reason) fault e =
    let made : WireFault = record { at = left.at; reason = reason } in
    let same : made ≡ fault = cc in
    (ap (λ (f : WireFault). Err f.reason) same, sym (ap (λ (f : WireFault). f.at) same))

-- A variable byte integer that was read has one to four bytes.
use Rattle.std.proofs.Common.{◌≡◌, ℕ, ◌+◌, ◌*◌, ◌-◌, ◌≤◌, Bool, true, false, List, [], ◌∷◌, Result, Ok, Err, ap, arith}
use Rattle.std.specs.Prelude.{nat_lt, ◌==◌, if◌then◌else◌}
use Rattle.mq_wire.specs.declared.fault.Reason.{Reason}
use Rattle.mq_wire.specs.declared.fault.Reason.TheVariants as reasons
use Rattle.mq_wire.specs.declared.fault.WireFault.{WireFault}
use Rattle.mq_wire.specs.Left.{Left, placed}
use Rattle.mq_wire.specs.Fields.{varint_at, ended_by, second_byte, third_byte, fourth_byte}

-- One to four bytes were taken.
abbrev pub OneToFour : Result (ℕ × ℕ) Reason → Type 0
OneToFour (Ok x) = (1 ≤ x.1) × (x.1 ≤ 4)
OneToFour (Err reason) = Unit {0}

-- What holds of two values holds of the one that is chosen.
pub chosen : {X : Type 0} (P : X → Type 0) (b : Bool) (x y : X) → P x → P y → P (if b then x else y)
chosen P true x y first second = first
chosen P false x y first second = second

-- The same for a relation between two choices whose first value is the same.
pub chosen_both : {X : Type 0} (P : X → X → Type 0) (b : Bool) (x before after : X) → P x x → P before after → P (if b then x else before) (if b then x else after)
chosen_both P true x before after first second = first
chosen_both P false x before after first second = second

ended_length : (last n taken : ℕ) → 1 ≤ taken → taken ≤ 4 → OneToFour (ended_by last n taken)
ended_length last n taken some few = chosen OneToFour (last == 0) (Err reasons.Overlong) (Ok (n, taken)) tt (some, few)

fourth_length : (n : ℕ) (c : List ℕ) → OneToFour (fourth_byte n c)
fourth_length n [] = tt
fourth_length n (d ∷ c) =
    chosen OneToFour (nat_lt d 128) (ended_by d (n + 2097152 * d) 4) (Err reasons.Overlong) (ended_length d (n + 2097152 * d) 4 (omega arith) (omega arith)) tt

third_length : (n : ℕ) (c : List ℕ) → OneToFour (third_byte n c)
third_length n [] = tt
third_length n (d ∷ c) =
    chosen OneToFour (nat_lt d 128) (ended_by d (n + 16384 * d) 3) (fourth_byte (n + 16384 * (d - 128)) c) (ended_length d (n + 16384 * d) 3 (omega arith) (omega arith)) (fourth_length (n + 16384 * (d - 128)) c)

second_length : (n : ℕ) (c : List ℕ) → OneToFour (second_byte n c)
second_length n [] = tt
second_length n (d ∷ c) =
    chosen OneToFour (nat_lt d 128) (ended_by d (n + 128 * d) 2) (third_byte (n + 128 * (d - 128)) c) (ended_length d (n + 128 * d) 2 (omega arith) (omega arith)) (third_length (n + 128 * (d - 128)) c)

pub varint_length : (c : List ℕ) → OneToFour (varint_at c)
unfolding varint_at
varint_length [] = tt
varint_length (d ∷ c) = chosen OneToFour (nat_lt d 128) (Ok (d, 1)) (second_byte (d - 128) c) (omega arith, omega arith) (second_length (d - 128) c)

-- The place after it.
abbrev place_in : Result (ℕ × Left) WireFault → ℕ → ℕ
place_in (Ok x) other = x.1.at
place_in (Err fault) other = other

placed_length : (left new : Left) (n : ℕ) (read : Result (ℕ × ℕ) Reason) → OneToFour read → placed left read ≡ Ok (n, new) → (left.at + 1 ≤ new.at) × (new.at ≤ left.at + 4)
placed_length left new n (Ok x) h e =
    (let there : left.at + x.1 ≡ new.at = ap (λ (r : Result (ℕ × Left) WireFault). place_in r 0) e in
    (omega (arith, there, h.0), omega (arith, there, h.1)))
placed_length left new n (Err reason) h e = (cc)

pub number_length : (left new : Left) (n : ℕ) → placed left (varint_at left.rest) ≡ Ok (n, new) → (left.at + 1 ≤ new.at) × (new.at ≤ left.at + 4)
number_length left new n e = placed_length left new n (varint_at left.rest) (varint_length left.rest) e

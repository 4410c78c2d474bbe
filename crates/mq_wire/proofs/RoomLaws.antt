-- A field that may be written is refused only for want of room.
use Rattle.std.proofs.Common.{◌≡◌, ℕ, ◌<◌, ◌≤◌, ◌⊎◌, inl, inr, Bool, true, false, Result, Ok, Err, refl, ap, arith}
use Rattle.std.specs.Prelude.{◌↔◌, OnErr, IfErr}
use Rattle.mq_wire.specs.declared.fault.PutFault.{PutFault}
use Rattle.mq_wire.specs.declared.fault.PutFault.TheVariants.{TooLong, Nul, Memory}

-- a Two or Four Byte Integer, or a byte
pub number_room : (capacity needed : ℕ) (result : Result (Unit {0}) PutFault) → IfErr result (λ fault. (fault ≡ Memory) × (capacity < needed)) → OnErr result (capacity < needed)
number_room capacity needed (Ok u) memory = tt
number_room capacity needed (Err fault) memory = memory.1

-- a Variable Byte Integer, or binary data, that is no longer than the most
pub counted_room : (capacity needed : ℕ) (result : Result (Unit {0}) PutFault) (most size : ℕ) → ((result ≡ Err TooLong) ↔ (most < size)) → IfErr result (λ fault. (fault ≡ TooLong) ⊎ ((fault ≡ Memory) × (capacity < needed))) → size ≤ most → OnErr result (capacity < needed)
counted_room capacity needed (Ok u) most size long memory le = tt
counted_room capacity needed (Err fault) most size long memory le =
    elim memory [
      | inl is ↦ absurd (omega (arith, long.0 (ap (λ (f : PutFault). Err f) is), le))
      | inr is ↦ is.1
    ]

-- a text that is no longer than the most, without U+0000
pub text_room : (capacity needed : ℕ) (result : Result (Unit {0}) PutFault) (size : ℕ) (nul : Bool) → ((result ≡ Err TooLong) ↔ (65535 < size)) → ((result ≡ Err Nul) ↔ ((size ≤ 65535) × (nul ≡ true))) → (result ≡ Err Memory → capacity < needed)
    → size ≤ 65535 → nul ≡ false → OnErr result (capacity < needed)
text_room capacity needed (Ok u) size nul long bad memory le none = tt
text_room capacity needed (Err TooLong) size nul long bad memory le none = absurd (omega (arith, long.0 refl, le))
text_room capacity needed (Err Nul) size nul long bad memory le none = let is = (bad.0 refl).1 in absurd cc
text_room capacity needed (Err Memory) size nul long bad memory le none = memory refl

-- two such texts
pub pair_room : (capacity needed : ℕ) (result : Result (Unit {0}) PutFault) (name value : ℕ) (name_nul value_nul : Bool) → ((result ≡ Err TooLong) ↔ ((65535 < name) ⊎ (65535 < value))) → ((result ≡ Err Nul) ↔ ((name ≤ 65535) × (value ≤ 65535) × ((name_nul ≡ true) ⊎ (value_nul ≡ true)))) → (result ≡ Err Memory → capacity < needed)
    → name ≤ 65535 → value ≤ 65535 → name_nul ≡ false → value_nul ≡ false → OnErr result (capacity < needed)
pair_room capacity needed (Ok u) name value name_nul value_nul long bad memory name_le value_le name_none value_none = tt
pair_room capacity needed (Err TooLong) name value name_nul value_nul long bad memory name_le value_le name_none value_none =
    elim (long.0 refl) [
      | inl lt ↦ absurd (omega (arith, lt, name_le))
      | inr lt ↦ absurd (omega (arith, lt, value_le))
    ]
pair_room capacity needed (Err Nul) name value name_nul value_nul long bad memory name_le value_le name_none value_none =
    elim (bad.0 refl).2 [
      | inl is ↦ absurd cc
      | inr is ↦ absurd cc
    ]
pair_room capacity needed (Err Memory) name value name_nul value_nul long bad memory name_le value_le name_none value_none = memory refl

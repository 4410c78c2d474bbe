-- A field takes no more bytes than there are.
use Rattle.std.proofs.Common.{◌≡◌, ℕ, ◌+◌, ◌*◌, ◌-◌, ◌≤◌, true, false, List, [], ◌∷◌, length, take, drop, Result, Ok, Err, refl, arith, length-drop}
use Rattle.std.specs.Int.{w16, from_be_bytes}
use Rattle.std.specs.Prelude.{◌==◌, nat_lt, if◌then◌else◌}
use Rattle.std.proofs.lemmas.Bool.{ltb-false}
use Rattle.mq_wire.specs.declared.fault.Reason.{Reason}
use Rattle.mq_wire.specs.declared.fault.Reason.TheVariants as reasons
use Rattle.mq_wire.specs.Fields.{◌>>=◌, byte_at, two_bytes_at, four_bytes_at, varint_at, ended_by, second_byte, third_byte, fourth_byte, counted_bytes, binary_at, text_of, text_at, pair_at}
use Rattle.mq_props.specs.declared.table.ValueType.{ValueType}
use Rattle.mq_props.specs.declared.table.ValueType.TheVariants as types
use Rattle.mq_props.specs.Values.{byte_value, two_bytes_value, four_bytes_value, varint_value, text_value, binary_value}
use Rattle.mq_props.proofs.Fields.{mapped, value_at, pair_of}

-- how many bytes a field takes
abbrev pub taken_by : {X : Type 0} → Result (X × ℕ) Reason → ℕ
taken_by (Ok x) = x.1
taken_by (Err reason) = 0

ended_within : (last n size : ℕ) → taken_by (ended_by last n size) ≤ size
ended_within last n size =
    elim (last == 0) as (λ b. taken_by (if b then Err reasons.Overlong else Ok (n, size)) ≤ size) [ true ↦ omega arith | false ↦ omega arith ]

fourth_within : (n : ℕ) (bytes : List ℕ) → taken_by (fourth_byte n bytes) ≤ 3 + length bytes
fourth_within n [] = omega arith
fourth_within n (d ∷ bytes) =
    elim (nat_lt d 128) as (λ b. taken_by (if b then ended_by d (n + 2097152 * d) 4 else Err reasons.Overlong) ≤ 3 + length (d ∷ bytes)) [
      | true ↦ omega (arith, ended_within d (n + 2097152 * d) 4)
      | false ↦ omega arith
    ]

third_within : (n : ℕ) (bytes : List ℕ) → taken_by (third_byte n bytes) ≤ 2 + length bytes
third_within n [] = omega arith
third_within n (c ∷ bytes) =
    elim (nat_lt c 128) as (λ b. taken_by (if b then ended_by c (n + 16384 * c) 3 else fourth_byte (n + 16384 * (c - 128)) bytes) ≤ 2 + length (c ∷ bytes)) [
      | true ↦ omega (arith, ended_within c (n + 16384 * c) 3)
      | false ↦ omega (arith, fourth_within (n + 16384 * (c - 128)) bytes)
    ]

second_within : (n : ℕ) (bytes : List ℕ) → taken_by (second_byte n bytes) ≤ 1 + length bytes
second_within n [] = omega arith
second_within n (b ∷ bytes) =
    elim (nat_lt b 128) as (λ t. taken_by (if t then ended_by b (n + 128 * b) 2 else third_byte (n + 128 * (b - 128)) bytes) ≤ 1 + length (b ∷ bytes)) [
      | true ↦ omega (arith, ended_within b (n + 128 * b) 2)
      | false ↦ omega (arith, third_within (n + 128 * (b - 128)) bytes)
    ]

pub varint_within : (bytes : List ℕ) → taken_by (varint_at bytes) ≤ length bytes
unfolding varint_at
varint_within [] = omega arith
varint_within (a ∷ bytes) =
    elim (nat_lt a 128) as (λ b. taken_by (if b then Ok (a, 1) else second_byte (a - 128) bytes) ≤ length (a ∷ bytes)) [
      | true ↦ omega arith
      | false ↦ omega (arith, second_within (a - 128) bytes)
    ]

counted_within : (n : ℕ) (bytes : List ℕ) → taken_by (counted_bytes n bytes) ≤ 2 + length bytes
counted_within n bytes =
    elim (nat_lt (length bytes) n) as (λ b. nat_lt (length bytes) n ≡ b → taken_by (if b then Err reasons.Short else Ok (take n bytes, 2 + n)) ≤ 2 + length bytes) [
      | true ↦ λ e. omega arith
      | false ↦ λ e. (let fits : n ≤ length bytes = ltb-false (length bytes) n e in omega arith)
    ] refl

pub binary_within : (bytes : List ℕ) → taken_by (binary_at bytes) ≤ length bytes
unfolding binary_at
binary_within [] = omega arith
binary_within (a ∷ []) = omega arith
binary_within (a ∷ b ∷ bytes) = omega (arith, counted_within (from_be_bytes w16 (a ∷ b ∷ [])) bytes)

-- a text of this size, if its bytes are one
abbrev sized : Result (List ℕ) Reason → ℕ → Result (List ℕ × ℕ) Reason
sized found size = found >>= (λ t. Ok (t, size))

abbrev text_in : Result (List ℕ × ℕ) Reason → Result (List ℕ × ℕ) Reason
text_in found = found >>= (λ x. sized (text_of x.0) x.1)

sized_within : (size : ℕ) (found : Result (List ℕ) Reason) → taken_by (sized found size) ≤ size
sized_within size (Ok bytes) = omega arith
sized_within size (Err reason) = omega arith

text_in_within : (found : Result (List ℕ × ℕ) Reason) → taken_by (text_in found) ≤ taken_by found
text_in_within (Ok found) = sized_within found.1 (text_of found.0)
text_in_within (Err reason) = omega arith

pub text_within : (bytes : List ℕ) → taken_by (text_at bytes) ≤ length bytes
unfolding text_at
text_within bytes = omega (arith, text_in_within (binary_at bytes), binary_within bytes)

-- a pair whose name was read
abbrev with_name : List ℕ × ℕ → Result (List ℕ × ℕ) Reason → Result ((List ℕ × List ℕ) × ℕ) Reason
with_name name value = value >>= (λ v. Ok ((name.0, v.0), name.1 + v.1))

with_name_within : (name : List ℕ × ℕ) (value : Result (List ℕ × ℕ) Reason) → taken_by (with_name name value) ≤ name.1 + taken_by value
with_name_within name (Ok value) = omega arith
with_name_within name (Err reason) = omega arith

pair_in_within : (bytes : List ℕ) (name : Result (List ℕ × ℕ) Reason) → taken_by name ≤ length bytes → taken_by (name >>= (λ x. with_name x (text_at (drop x.1 bytes)))) ≤ length bytes
pair_in_within bytes (Ok name) h = omega (arith, h, with_name_within name (text_at (drop name.1 bytes)), text_within (drop name.1 bytes), length-drop name.1 bytes)
pair_in_within bytes (Err reason) h = omega arith

pub pair_within : (bytes : List ℕ) → taken_by (pair_at bytes) ≤ length bytes
unfolding pair_at
pair_within bytes = pair_in_within bytes (text_at bytes) (text_within bytes)

pub four_bytes_within : (bytes : List ℕ) → taken_by (four_bytes_at bytes) ≤ length bytes
four_bytes_within [] = omega arith
four_bytes_within (a ∷ []) = omega arith
four_bytes_within (a ∷ b ∷ []) = omega arith
four_bytes_within (a ∷ b ∷ c ∷ []) = omega arith
four_bytes_within (a ∷ b ∷ c ∷ d ∷ bytes) = omega arith

pub two_bytes_within : (bytes : List ℕ) → taken_by (two_bytes_at bytes) ≤ length bytes
two_bytes_within [] = omega arith
two_bytes_within (a ∷ []) = omega arith
two_bytes_within (a ∷ b ∷ bytes) = omega arith

pub byte_within : (bytes : List ℕ) → taken_by (byte_at bytes) ≤ length bytes
byte_within [] = omega arith
byte_within (a ∷ bytes) = omega arith

mapped_within : {X Y : Type 0} (make : X → Y) (read : Result (X × ℕ) Reason) (size : ℕ) → taken_by read ≤ size → taken_by (mapped make read) ≤ size
mapped_within make (Ok x) size h = h
mapped_within make (Err reason) size h = h

-- a value of each type
pub value_within : (kind : ValueType) (bytes : List ℕ) → taken_by (value_at kind bytes) ≤ length bytes
value_within types.Byte bytes = mapped_within byte_value (byte_at bytes) (length bytes) (byte_within bytes)
value_within types.TwoBytes bytes = mapped_within two_bytes_value (two_bytes_at bytes) (length bytes) (two_bytes_within bytes)
value_within types.FourBytes bytes = mapped_within four_bytes_value (four_bytes_at bytes) (length bytes) (four_bytes_within bytes)
value_within types.Varint bytes = mapped_within varint_value (varint_at bytes) (length bytes) (varint_within bytes)
value_within types.Text bytes = mapped_within text_value (text_at bytes) (length bytes) (text_within bytes)
value_within types.Pair bytes = mapped_within pair_of (pair_at bytes) (length bytes) (pair_within bytes)
value_within types.Binary bytes = mapped_within binary_value (binary_at bytes) (length bytes) (binary_within bytes)

-- A fixed header that becomes whole ends with the byte that was missing, and one that is short has at most four bytes.
use Rattle.std.proofs.Common.{◌≡◌, ℕ, ◌+◌, ◌*◌, ◌-◌, ◌≤◌, List, [], ◌∷◌, ◌++◌, length, Result, Ok, Err, refl, ◌∙◌, subst, arith}
use Rattle.std.specs.Prelude.{nat_lt, ◌==◌, if◌then◌else◌}
use Rattle.mq_wire.specs.declared.fault.Reason.{Reason}
use Rattle.mq_wire.specs.declared.fault.Reason.TheVariants as reasons
use Rattle.mq_wire.specs.Fields.{varint_at, second_byte, third_byte, fourth_byte, ended_by}
use Rattle.mq_packet.specs.declared.header.FixedHeader.TheVariants as headers
use Rattle.mq_packet.specs.Stream.{remaining_length_at, header_with, fixed_header_of}
use Rattle.mq_packet.proofs.Lengths.{chosen, chosen_both}

-- The number takes all of n bytes, if it was read.
abbrev TakesAll : ℕ → Result (ℕ × ℕ) Reason → Type 0
TakesAll n (Ok x) = x.1 ≡ n
TakesAll n (Err reason) = Unit {0}

-- A number that was short takes no more than the bytes there, whatever their number.
short_takes : (n : ℕ) (r : Result (ℕ × ℕ) Reason) → header_with r ≡ headers.Short → TakesAll n r
short_takes n (Ok x) e = absurd (cc)
short_takes n (Err reason) e = tt

ended_takes : (last n taken : ℕ) → TakesAll taken (ended_by last n taken)
ended_takes last n taken = chosen (TakesAll taken) (last == 0) (Err reasons.Overlong) (Ok (n, taken)) tt refl

-- A byte before those of a number that was short: if they all are taken, m of them, so are the n with it.
first_takes : (n m d : ℕ) (last before after : Result (ℕ × ℕ) Reason) → m ≡ n → (header_with before ≡ headers.Short → TakesAll m after)
    → header_with (if nat_lt d 128 then last else before) ≡ headers.Short → TakesAll n (if nat_lt d 128 then last else after)
first_takes n m d last before after same takes e =
    chosen_both (λ (r s : Result (ℕ × ℕ) Reason). header_with r ≡ headers.Short → TakesAll n s) (nat_lt d 128) last before after (short_takes n last) (λ short. subst (λ (k : ℕ). TakesAll k after) same (takes short)) e

-- A number that was short, and is read with one byte more, takes them all.
fourth_takes : (n : ℕ) (a : List ℕ) (byte : ℕ) → header_with (fourth_byte n a) ≡ headers.Short → TakesAll (3 + length (a ++ byte ∷ [])) (fourth_byte n (a ++ byte ∷ []))
fourth_takes n [] byte e = chosen (TakesAll 4) (nat_lt byte 128) (ended_by byte (n + 2097152 * byte) 4) (Err reasons.Overlong) (ended_takes byte (n + 2097152 * byte) 4) tt
fourth_takes n (d ∷ a) byte e = short_takes (3 + length ((d ∷ a) ++ byte ∷ [])) (fourth_byte n (d ∷ a)) e

third_takes : (n : ℕ) (a : List ℕ) (byte : ℕ) → header_with (third_byte n a) ≡ headers.Short → TakesAll (2 + length (a ++ byte ∷ [])) (third_byte n (a ++ byte ∷ []))
third_takes n [] byte e = chosen (TakesAll 3) (nat_lt byte 128) (ended_by byte (n + 16384 * byte) 3) (fourth_byte (n + 16384 * (byte - 128)) []) (ended_takes byte (n + 16384 * byte) 3) tt
third_takes n (d ∷ a) byte e =
    (let m : ℕ = n + 16384 * (d - 128) in
    first_takes (2 + length ((d ∷ a) ++ byte ∷ [])) (3 + length (a ++ byte ∷ [])) d (ended_by d (n + 16384 * d) 3) (fourth_byte m a) (fourth_byte m (a ++ byte ∷ [])) (omega arith) (fourth_takes m a byte) e)

second_takes : (n : ℕ) (a : List ℕ) (byte : ℕ) → header_with (second_byte n a) ≡ headers.Short → TakesAll (1 + length (a ++ byte ∷ [])) (second_byte n (a ++ byte ∷ []))
second_takes n [] byte e = chosen (TakesAll 2) (nat_lt byte 128) (ended_by byte (n + 128 * byte) 2) (third_byte (n + 128 * (byte - 128)) []) (ended_takes byte (n + 128 * byte) 2) tt
second_takes n (d ∷ a) byte e =
    (let m : ℕ = n + 128 * (d - 128) in
    first_takes (1 + length ((d ∷ a) ++ byte ∷ [])) (2 + length (a ++ byte ∷ [])) d (ended_by d (n + 128 * d) 2) (third_byte m a) (third_byte m (a ++ byte ∷ [])) (omega arith) (third_takes m a byte) e)

number_takes : (a : List ℕ) (byte : ℕ) → header_with (varint_at a) ≡ headers.Short → TakesAll (length (a ++ byte ∷ [])) (varint_at (a ++ byte ∷ []))
unfolding varint_at
number_takes [] byte e = chosen (TakesAll 1) (nat_lt byte 128) (Ok (byte, 1)) (second_byte (byte - 128) []) refl tt
number_takes (d ∷ a) byte e =
    first_takes (length ((d ∷ a) ++ byte ∷ [])) (1 + length (a ++ byte ∷ [])) d (Ok (d, 1)) (second_byte (d - 128) a) (second_byte (d - 128) (a ++ byte ∷ [])) (omega arith) (second_takes (d - 128) a byte) e

header_takes : (n header size : ℕ) (r : Result (ℕ × ℕ) Reason) → TakesAll n r → header_with r ≡ headers.Whole header size → header ≡ 1 + n
header_takes n header size (Ok x) all e = (let h : 1 + x.1 ≡ header = cc in omega (arith, h, all))
header_takes n header size (Err reasons.Overlong) all e = absurd (cc)
header_takes n header size _ all e = absurd (cc)

-- A fixed header that was short, and is whole with one byte more, ends with that byte.
pub ends_header : (a : List ℕ) (byte header size : ℕ) → fixed_header_of a ≡ headers.Short → fixed_header_of (a ++ byte ∷ []) ≡ headers.Whole header size → header ≡ length (a ++ byte ∷ [])
unfolding fixed_header_of varint_at
ends_header [] byte header size short whole = absurd (nothing_after whole)
  where
    nothing_after : header_with (remaining_length_at (byte ∷ [])) ≡ headers.Whole header size → ⊥
    nothing_after e = (cc)
ends_header (first ∷ a) byte header size short whole =
    (let all : header ≡ 1 + length (a ++ byte ∷ []) = header_takes (length (a ++ byte ∷ [])) header size (varint_at (a ++ byte ∷ [])) (number_takes a byte short) whole in
    let same : 1 + length (a ++ byte ∷ []) ≡ length ((first ∷ a) ++ byte ∷ []) = omega arith in
    all ∙ same)

-- A fixed header that is short has at most four bytes.
ended_not_short : (last n taken : ℕ) → header_with (ended_by last n taken) ≡ headers.Short → ⊥
ended_not_short last n taken =
    chosen (λ (r : Result (ℕ × ℕ) Reason). header_with r ≡ headers.Short → ⊥) (last == 0) (Err reasons.Overlong) (Ok (n, taken)) (λ e. (cc)) (λ e. (cc))

-- A byte before those of a number that is short: it isn't the last of it.
first_few : (d many few : ℕ) (last others : Result (ℕ × ℕ) Reason) → (header_with last ≡ headers.Short → ⊥) → (header_with others ≡ headers.Short → many ≤ few)
    → header_with (if nat_lt d 128 then last else others) ≡ headers.Short → many ≤ few
first_few d many few last others ends goes e =
    chosen (λ (r : Result (ℕ × ℕ) Reason). header_with r ≡ headers.Short → many ≤ few) (nat_lt d 128) last others (λ s. absurd (ends s)) goes e

fourth_few : (n : ℕ) (a : List ℕ) → header_with (fourth_byte n a) ≡ headers.Short → length a ≤ 0
fourth_few n [] e = omega arith
fourth_few n (d ∷ a) e = first_few d (length (d ∷ a)) 0 (ended_by d (n + 2097152 * d) 4) (Err reasons.Overlong) (ended_not_short d (n + 2097152 * d) 4) (λ s. absurd (cc)) e

third_few : (n : ℕ) (a : List ℕ) → header_with (third_byte n a) ≡ headers.Short → length a ≤ 1
third_few n [] e = omega arith
third_few n (d ∷ a) e =
    (let few : length a ≤ 0 = first_few d (length a) 0 (ended_by d (n + 16384 * d) 3) (fourth_byte (n + 16384 * (d - 128)) a) (ended_not_short d (n + 16384 * d) 3) (fourth_few (n + 16384 * (d - 128)) a) e in
    omega arith)

second_few : (n : ℕ) (a : List ℕ) → header_with (second_byte n a) ≡ headers.Short → length a ≤ 2
second_few n [] e = omega arith
second_few n (d ∷ a) e =
    (let few : length a ≤ 1 = first_few d (length a) 1 (ended_by d (n + 128 * d) 2) (third_byte (n + 128 * (d - 128)) a) (ended_not_short d (n + 128 * d) 2) (third_few (n + 128 * (d - 128)) a) e in
    omega arith)

number_few : (a : List ℕ) → header_with (varint_at a) ≡ headers.Short → length a ≤ 3
unfolding varint_at
number_few [] e = omega arith
number_few (d ∷ a) e = (let few : length a ≤ 2 = first_few d (length a) 2 (Ok (d, 1)) (second_byte (d - 128) a) (λ s. (cc)) (second_few (d - 128) a) e in omega arith)

pub short_few : (a : List ℕ) → fixed_header_of a ≡ headers.Short → length a ≤ 4
unfolding fixed_header_of
short_few [] e = omega arith
short_few (first ∷ a) e = (let few : length a ≤ 3 = number_few a e in omega arith)

-- Variable Byte Integers: the reading is exact, and settled by the bytes that it takes.
use Rattle.std.proofs.Common.{◌≡◌, ℕ, zero, suc, ◌+◌, ◌-◌, ◌*◌, ◌/◌, ◌%◌, ◌<◌, ◌≤◌, Bool, true, false, cond, List, [], ◌∷◌, ◌++◌, length, Ok, Err, refl, subst, inl, inr, arith}
use Rattle.std.proofs.lemmas.Bool.{cases_lt, lt-ltb, le-ltb, ne_eqb}
use Rattle.mq_wire.specs.declared.fault.Reason.TheVariants.{Short}
use Rattle.mq_wire.specs.Fields.{ended_by, fourth_byte, third_byte, second_byte, varint_at}
use Rattle.mq_wire.specs.Spellings.{AreBytes, IsVarint, varint_spelling, BeginsWith, IsExact}

-- the spelling of a number by its groups of seven bits

pub spelling_of_1 : (n : ℕ) → n < 128 → varint_spelling n ≡ n ∷ []
unfolding varint_spelling
spelling_of_1 n h = rw (lt-ltb n 128 h) refl

pub spelling_of_2 : (n p q : ℕ) → n ≡ p + 128 * q → p < 128 → 0 < q → q < 128 → varint_spelling n ≡ (128 + p) ∷ q ∷ []
unfolding varint_spelling
spelling_of_2 n p q is hp above hq =
    let not_1 : 128 ≤ n = omega arith in
    let fits_2 : n < 16384 = omega arith in
    let first : n % 128 ≡ p = omega arith in
    let second : n / 128 ≡ q = omega arith in
    rw (le-ltb n 128 not_1, lt-ltb n 16384 fits_2, first, second) refl

pub spelling_of_3 : (n p q r : ℕ) → n ≡ p + 128 * q + 16384 * r → p < 128 → q < 128 → 0 < r → r < 128 → varint_spelling n ≡ (128 + p) ∷ (128 + q) ∷ r ∷ []
unfolding varint_spelling
spelling_of_3 n p q r is hp hq above hr =
    let not_1 : 128 ≤ n = omega arith in
    let not_2 : 16384 ≤ n = omega arith in
    let fits_3 : n < 2097152 = omega arith in
    let first : n % 128 ≡ p = omega arith in
    let second : n / 128 % 128 ≡ q = omega arith in
    let third : n / 16384 ≡ r = omega arith in
    rw (le-ltb n 128 not_1, le-ltb n 16384 not_2, lt-ltb n 2097152 fits_3, first, second, third) refl

pub spelling_of_4 : (n p q r s : ℕ) → n ≡ p + 128 * q + 16384 * r + 2097152 * s → p < 128 → q < 128 → r < 128 → 0 < s → varint_spelling n ≡ (128 + p) ∷ (128 + q) ∷ (128 + r) ∷ s ∷ []
unfolding varint_spelling
spelling_of_4 n p q r s is hp hq hr above =
    let not_1 : 128 ≤ n = omega arith in
    let not_2 : 16384 ≤ n = omega arith in
    let not_3 : 2097152 ≤ n = omega arith in
    let first : n % 128 ≡ p = omega arith in
    let second : n / 128 % 128 ≡ q = omega arith in
    let third : n / 16384 % 128 ≡ r = omega arith in
    let fourth : n / 2097152 ≡ s = omega arith in
    rw (le-ltb n 128 not_1, le-ltb n 16384 not_2, le-ltb n 2097152 not_3, first, second, third, fourth) refl

-- what is read is spelled so

-- the last byte isn't 0, and the number and the bytes taken are those
ended_ok : (last number taken : ℕ) (x : ℕ × ℕ) → ended_by last number taken ≡ Ok x → (0 < last) × ((number, taken) ≡ x)
ended_ok zero number taken x e = absurd cc
ended_ok (suc last) number taken x e =
    let read = rw (ne_eqb (suc last) 0 (λ zero_last. omega arith)) at e in
    (omega arith, cc)

fourth_only : (p q r : ℕ) (bytes : List ℕ) (x : ℕ × ℕ) → p < 128 → q < 128 → r < 128 → fourth_byte (p + 128 * q + 16384 * r) bytes ≡ Ok x → BeginsWith IsVarint varint_spelling ((128 + p) ∷ (128 + q) ∷ (128 + r) ∷ bytes) x.0 x.1
fourth_only p q r [] x hp hq hr e = absurd cc
fourth_only p q r (d ∷ bytes) x hp hq hr e =
    elim (cases_lt d 128) [
      | inl lt ↦
          let number = p + 128 * q + 16384 * r + 2097152 * d in
          let ended = ended_ok d number 4 x (rw (lt-ltb d 128 lt) at e) in
          let is = spelling_of_4 number p q r d refl hp hq hr ended.0 in
          subst (λ (y : ℕ × ℕ). BeginsWith IsVarint varint_spelling ((128 + p) ∷ (128 + q) ∷ (128 + r) ∷ d ∷ bytes) y.0 y.1) ended.1 (record { value = omega arith; taken = rw is refl; spelled = rw is refl })
      | inr le ↦ absurd (let never = rw (le-ltb d 128 le) at e in cc)
    ]

third_only : (p q : ℕ) (bytes : List ℕ) (x : ℕ × ℕ) → p < 128 → q < 128 → AreBytes bytes → third_byte (p + 128 * q) bytes ≡ Ok x → BeginsWith IsVarint varint_spelling ((128 + p) ∷ (128 + q) ∷ bytes) x.0 x.1
third_only p q [] x hp hq fits e = absurd cc
third_only p q (c ∷ bytes) x hp hq fits e =
    elim (cases_lt c 128) [
      | inl lt ↦
          let number = p + 128 * q + 16384 * c in
          let ended = ended_ok c number 3 x (rw (lt-ltb c 128 lt) at e) in
          let is = spelling_of_3 number p q c refl hp hq ended.0 lt in
          subst (λ (y : ℕ × ℕ). BeginsWith IsVarint varint_spelling ((128 + p) ∷ (128 + q) ∷ c ∷ bytes) y.0 y.1) ended.1 (record { value = omega arith; taken = rw is refl; spelled = rw is refl })
      | inr le ↦
          let byte : c < 256 = fits 0 in
          let third : 128 + (c - 128) ≡ c = omega arith in
          let stands = fourth_only p q (c - 128) bytes x hp hq (omega arith) (rw (le-ltb c 128 le) at e) in
          rw third at stands
    ]

second_only : (p : ℕ) (bytes : List ℕ) (x : ℕ × ℕ) → p < 128 → AreBytes bytes → second_byte p bytes ≡ Ok x → BeginsWith IsVarint varint_spelling ((128 + p) ∷ bytes) x.0 x.1
second_only p [] x hp fits e = absurd cc
second_only p (b ∷ bytes) x hp fits e =
    elim (cases_lt b 128) [
      | inl lt ↦
          let number = p + 128 * b in
          let ended = ended_ok b number 2 x (rw (lt-ltb b 128 lt) at e) in
          let is = spelling_of_2 number p b refl hp ended.0 lt in
          subst (λ (y : ℕ × ℕ). BeginsWith IsVarint varint_spelling ((128 + p) ∷ b ∷ bytes) y.0 y.1) ended.1 (record { value = omega arith; taken = rw is refl; spelled = rw is refl })
      | inr le ↦
          let byte : b < 256 = fits 0 in
          let second : 128 + (b - 128) ≡ b = omega arith in
          let stands = third_only p (b - 128) bytes x hp (omega arith) (λ i. fits (suc i)) (rw (le-ltb b 128 le) at e) in
          rw second at stands
    ]

varint_only : (bytes : List ℕ) (x : ℕ × ℕ) → AreBytes bytes → varint_at bytes ≡ Ok x → BeginsWith IsVarint varint_spelling bytes x.0 x.1
unfolding varint_at
varint_only [] x fits e = absurd cc
varint_only (a ∷ bytes) x fits e =
    elim (cases_lt a 128) [
      | inl lt ↦
          let made : ℕ × ℕ = (a, 1) in
          let read = rw (lt-ltb a 128 lt) at e in
          let same : made ≡ x = cc in
          let is = spelling_of_1 a lt in
          subst (λ (y : ℕ × ℕ). BeginsWith IsVarint varint_spelling (a ∷ bytes) y.0 y.1) same (record { value = omega arith; taken = rw is refl; spelled = rw is refl })
      | inr le ↦
          let byte : a < 256 = fits 0 in
          let first : 128 + (a - 128) ≡ a = omega arith in
          let stands = second_only (a - 128) bytes x (omega arith) (λ i. fits (suc i)) (rw (le-ltb a 128 le) at e) in
          rw first at stands
    ]

-- what is spelled so is read

high_bit : (p : ℕ) → (128 + p) - 128 ≡ p
high_bit p = omega arith

reads_1 : (n : ℕ) (rest : List ℕ) → n < 128 → varint_at (n ∷ rest) ≡ Ok (n, 1)
unfolding varint_at
reads_1 n rest h = rw (lt-ltb n 128 h) refl

ended_at : (last number taken : ℕ) → 0 < last → ended_by last number taken ≡ Ok (number, taken)
ended_at last number taken above = rw (ne_eqb last 0 (λ zero_last. omega arith)) refl

reads_2 : (n p q : ℕ) (rest : List ℕ) → n ≡ p + 128 * q → 0 < q → q < 128 → varint_at ((128 + p) ∷ q ∷ rest) ≡ Ok (n, 2)
unfolding varint_at
reads_2 n p q rest is above hq =
    let more : 128 ≤ 128 + p = omega arith in
    rw (le-ltb (128 + p) 128 more, lt-ltb q 128 hq, high_bit p, ← is) (ended_at q n 2 above)

reads_3 : (n p q r : ℕ) (rest : List ℕ) → n ≡ p + 128 * q + 16384 * r → 0 < r → r < 128 → varint_at ((128 + p) ∷ (128 + q) ∷ r ∷ rest) ≡ Ok (n, 3)
unfolding varint_at
reads_3 n p q r rest is above hr =
    let first : 128 ≤ 128 + p = omega arith in
    let second : 128 ≤ 128 + q = omega arith in
    rw (le-ltb (128 + p) 128 first, le-ltb (128 + q) 128 second, lt-ltb r 128 hr, high_bit p, high_bit q, ← is) (ended_at r n 3 above)

reads_4 : (n p q r s : ℕ) (rest : List ℕ) → n ≡ p + 128 * q + 16384 * r + 2097152 * s → 0 < s → s < 128 → varint_at ((128 + p) ∷ (128 + q) ∷ (128 + r) ∷ s ∷ rest) ≡ Ok (n, 4)
unfolding varint_at
reads_4 n p q r s rest is above hs =
    let first : 128 ≤ 128 + p = omega arith in
    let second : 128 ≤ 128 + q = omega arith in
    let third : 128 ≤ 128 + r = omega arith in
    rw (le-ltb (128 + p) 128 first, le-ltb (128 + q) 128 second, le-ltb (128 + r) 128 third, lt-ltb s 128 hs, high_bit p, high_bit q, high_bit r, ← is) (ended_at s n 4 above)

varint_all : (n : ℕ) (rest : List ℕ) → IsVarint n → varint_at (varint_spelling n ++ rest) ≡ Ok (n, length (varint_spelling n))
varint_all n rest bound =
    elim (cases_lt n 128) [
      | inl one ↦ rw (spelling_of_1 n one) (reads_1 n rest one)
      | inr above ↦ elim (cases_lt n 16384) [
        | inl two ↦ rw (spelling_of_2 n (n % 128) (n / 128) (omega arith) (omega arith) (omega arith) (omega arith)) (reads_2 n (n % 128) (n / 128) rest (omega arith) (omega arith) (omega arith))
        | inr above_2 ↦ elim (cases_lt n 2097152) [
          | inl three ↦ rw (spelling_of_3 n (n % 128) (n / 128 % 128) (n / 16384) (omega arith) (omega arith) (omega arith) (omega arith) (omega arith)) (reads_3 n (n % 128) (n / 128 % 128) (n / 16384) rest (omega arith) (omega arith) (omega arith))
          | inr above_3 ↦ rw (spelling_of_4 n (n % 128) (n / 128 % 128) (n / 16384 % 128) (n / 2097152) (omega arith) (omega arith) (omega arith) (omega arith) (omega arith)) (reads_4 n (n % 128) (n / 128 % 128) (n / 16384 % 128) (n / 2097152) rest (omega arith) (omega arith) (omega arith))
        ]
      ]
    ]

-- the reading of a Variable Byte Integer is exact
pub varint_exact : IsExact varint_at IsVarint varint_spelling
varint_exact = record { only = λ bytes x n fits e. varint_only bytes (x, n) fits e; all = varint_all }

-- a number, or the fault of one that is too long, doesn't depend on what follows it

cond_same : {A : Type 0} (b : Bool) (x y z : A) → y ≡ z → cond b x y ≡ cond b x z
cond_same true x y z e = refl
cond_same false x y z e = e

pub varint_settled : (bytes more : List ℕ) → (varint_at bytes ≡ Err Short → ⊥) → varint_at (bytes ++ more) ≡ varint_at bytes
unfolding varint_at
varint_settled [] more h = absurd (h refl)
varint_settled (a ∷ []) more h = elim (cases_lt a 128) [ inl lt ↦ rw (lt-ltb a 128 lt) refl | inr le ↦ absurd (h (rw (le-ltb a 128 le) refl)) ]
varint_settled (a ∷ b ∷ []) more h =
    elim (cases_lt a 128) [
      | inl lt ↦ rw (lt-ltb a 128 lt) refl
      | inr le ↦ elim (cases_lt b 128) [
        | inl lt ↦ rw (lt-ltb b 128 lt) refl
        | inr le_b ↦ absurd (h (rw (le-ltb a 128 le, le-ltb b 128 le_b) refl))
      ]
    ]
varint_settled (a ∷ b ∷ c ∷ []) more h =
    elim (cases_lt a 128) [
      | inl lt ↦ rw (lt-ltb a 128 lt) refl
      | inr le ↦ elim (cases_lt b 128) [
        | inl lt ↦ rw (lt-ltb b 128 lt) refl
        | inr le_b ↦ elim (cases_lt c 128) [
          | inl lt ↦ rw (lt-ltb c 128 lt) refl
          | inr le_c ↦ absurd (h (rw (le-ltb a 128 le, le-ltb b 128 le_b, le-ltb c 128 le_c) refl))
        ]
      ]
    ]
varint_settled (a ∷ b ∷ c ∷ d ∷ bytes) more h = refl

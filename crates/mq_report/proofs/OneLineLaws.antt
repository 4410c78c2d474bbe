-- Texts that stay on their line.
use Rattle.std.proofs.Common.{◌≡◌, ℕ, zero, suc, ◌+◌, ◌/◌, ◌%◌, ◌==◌, nat_lt, nat_le, Bool, true, false, List, [], ◌∷◌, ◌++◌, decimal, if◌then◌else◌, refl, arith}
use Rattle.std.proofs.lemmas.Bool.{and_from, and_parts, le-leb}
use Rattle.std.specs.Fmt.{digit_glyph, digits, digits_onto}
use Rattle.std.specs.List.{list_all}
use Rattle.mq_report.specs.OneLine.{is_on_one_line}

-- a test that holds of each part of a list holds of all of it
pub all_both : {X : Type 0} (test : X → Bool) (xs ys : List X) → list_all test xs ≡ true → list_all test ys ≡ true → list_all test (xs ++ ys) ≡ true
all_both test [] ys p q = q
all_both test (x ∷ xs) ys p q =
    let parts : (test x ≡ true) × (list_all test xs ≡ true) = and_parts (test x) (list_all test xs) p in
    and_from (test x) (list_all test (xs ++ ys)) parts.0 (all_both test xs ys parts.1 q)

-- two texts, and a byte before one
pub both : (a b : List ℕ) → is_on_one_line a ≡ true → is_on_one_line b ≡ true → is_on_one_line (a ++ b) ≡ true
both a b p q = all_both (λ byte. nat_le 32 byte) a b p q

pub before : (byte : ℕ) (text : List ℕ) → nat_le 32 byte ≡ true → is_on_one_line text ≡ true → is_on_one_line (byte ∷ text) ≡ true
before byte text p q = and_from (nat_le 32 byte) (is_on_one_line text) p q

-- digits
pub digit_fits : (upper : Bool) (d : ℕ) → nat_le 32 (digit_glyph upper d) ≡ true
digit_fits upper d = elim (nat_lt d 10) as (λ t. nat_le 32 (if t then 48 + d else (if upper then 55 + d else 87 + d)) ≡ true) [
  | true ↦ le-leb 32 (48 + d) (omega arith)
  | false ↦ elim upper as (λ u. nat_le 32 (if u then 55 + d else 87 + d) ≡ true) [ true ↦ le-leb 32 (55 + d) (omega arith) | false ↦ le-leb 32 (87 + d) (omega arith) ]
]

digits_fit : (k n : ℕ) (text : List ℕ) → is_on_one_line text ≡ true → is_on_one_line (digits_onto k 10 false n text) ≡ true
digits_fit zero n text p = p
digits_fit (suc k) n text p =
    let more : is_on_one_line (digit_glyph false (n % 10) ∷ text) ≡ true = before (digit_glyph false (n % 10)) text (digit_fits false (n % 10)) p in
    elim (n / 10 == 0) as (λ t. is_on_one_line (if t then digit_glyph false (n % 10) ∷ text else digits_onto k 10 false (n / 10) (digit_glyph false (n % 10) ∷ text)) ≡ true) [
      | true ↦ more
      | false ↦ digits_fit k (n / 10) (digit_glyph false (n % 10) ∷ text) more
    ]

pub decimal_fits : (n : ℕ) → is_on_one_line (decimal n) ≡ true
unfolding digits
decimal_fits n = digits_fit 64 n [] refl

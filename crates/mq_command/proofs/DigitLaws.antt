-- A text in which nothing is odd spells bytes; and a text that was read to its end.
use Rattle.std.proofs.Common.{◌≡◌, ◌+◌, ◌%◌, ◌≤◌, ℕ, Bool, true, false, List, [], ◌∷◌, length, take, min, Option, Some, None, IfSome, Result, Ok, Err, arith, refl, sym, subst, true≢false, ◌∙◌, ap}
use Rattle.std.specs.Prelude.{option_map, IsErr}
use Rattle.std.specs.List.{All, AllPass}
use Rattle.std.proofs.lemmas.List.{take_all, length-take}
use Rattle.std.proofs.lemmas.List.Elements.{All-nil, All-cons}
use Rattle.hex.specs.Hex.{decode_of, decode_pairs, is_hex_digit}
use Rattle.hex.proofs.HexLemmas.{decode_of-even, decode_pairs-digits}
use Rattle.mq_command.specs.Digits.{bytes_of, is_between, is_prefix, oddity_from, oddity_in, oddity_of, oddity_of_last, or_oddity, packed}
use Rattle.mq_command.specs.declared.oddity.Oddity.{Oddity}

-- ---- a text that was read

-- one that was read in at most so many bytes and one more, and has no more than so many, was read to its end
pub read_whole : (known : Option (List ℕ)) (most : ℕ) (text : List ℕ) → IfSome (option_map (take (most + 1)) known) (λ all. text ≡ all) → length text ≤ most
    → IfSome known (λ all. all ≡ text)
read_whole None most text h few = tt
read_whole (Some all) most text h few =
    let size : length text ≡ length (take (most + 1) all) = ap (length {A = ℕ}) h in
    let is : length (take (most + 1) all) ≡ min (most + 1) (length all) = length-take (most + 1) all in
    sym (h ∙ take_all (most + 1) all (omega (arith, size, is, few)))

-- ---- what is odd

-- a character that may stand before a byte is passed over
pub between_passes : (place first : ℕ) (after : List ℕ) → is_between first ≡ true → oddity_from place (first ∷ after) ≡ oddity_from (place + 1) after
between_passes place first [] e = rw e refl
between_passes place first (second ∷ rest) e = rw e refl

-- so is a prefix
pub prefix_passes : (place first second : ℕ) (rest : List ℕ) → is_between first ≡ false → is_prefix first second ≡ true
    → oddity_from place (first ∷ second ∷ rest) ≡ oddity_from (place + 2) rest
prefix_passes place first second rest e p = rw (e, p) refl

-- and two digits
pub byte_passes : (place first second : ℕ) (rest : List ℕ) → is_between first ≡ false → is_prefix first second ≡ false → oddity_of place first second ≡ None
    → oddity_from place (first ∷ second ∷ rest) ≡ oddity_from (place + 2) rest
byte_passes place first second rest e p o = rw (e, p, o) refl

-- a byte or a prefix at the front is passed over, also where places and characters are counted
pub two_pass : (place first second size : ℕ) (text after later : List ℕ) (whole : Option Oddity) → text ≡ first ∷ after → after ≡ second ∷ later
    → oddity_from place text ≡ whole → place + length text ≡ size → oddity_from place (first ∷ second ∷ later) ≡ oddity_from (place + 2) later
    → (oddity_from (place + 2) later ≡ whole) × (place + 2 + length later ≡ size)
two_pass place first second size text after later whole text_is after_is same sum passes =
    let is : text ≡ first ∷ second ∷ later = text_is ∙ ap (λ (t : List ℕ). first ∷ t) after_is in
    let long : length text ≡ length (first ∷ second ∷ later) = ap (length {A = ℕ}) is in
    let two : length (first ∷ second ∷ later) ≡ 2 + length later = omega arith in (
      sym passes ∙ ap (oddity_from place) (sym is) ∙ same,
      omega (arith, long, two, sum),
    )

-- ---- a text in which nothing is odd

-- digits of which there are two for each byte
record AreDigits (digits : List ℕ) : Type 0 where
  pub even : length digits % 2 ≡ 0
  pub pass : AllPass is_hex_digit digits

-- two more make a byte more
one_more : (first second : ℕ) (digits : List ℕ) → is_hex_digit first ≡ true → is_hex_digit second ≡ true → AreDigits digits → AreDigits (first ∷ second ∷ digits)
one_more first second digits a b h = record {
  even = omega (arith, h.even);
  pass = All-cons (λ x. is_hex_digit x ≡ true) first (second ∷ digits) a (All-cons (λ x. is_hex_digit x ≡ true) second digits b h.pass);
}

-- both characters of a byte in which nothing is odd are digits
two_digits : (place first second : ℕ) → oddity_of place first second ≡ None → (is_hex_digit first ≡ true) × (is_hex_digit second ≡ true)
two_digits place first second none = by (is_hex_digit first) (is_hex_digit second) refl refl
  where
    by : (a b : Bool) → is_hex_digit first ≡ a → is_hex_digit second ≡ b → (is_hex_digit first ≡ true) × (is_hex_digit second ≡ true)
    by true true a b = (a, b)
    by true false a b = absurd (cc (rw (a, b) at none))
    by false b a _ = absurd (cc (rw a at none))

last_digit : (place first : ℕ) → oddity_from place (first ∷ []) ≡ None → AreDigits (packed (first ∷ []))
last_digit place first none = by (is_between first) refl
  where
    by : (b : Bool) → is_between first ≡ b → AreDigits (packed (first ∷ []))
    by true e = rw e (record { even = refl; pass = All-nil (λ x. is_hex_digit x ≡ true) })
    by false e = absurd (cc (rw e at none))

first_byte : (place first second : ℕ) (rest : List ℕ) → oddity_from place (first ∷ second ∷ rest) ≡ None
    → (oddity_from (place + 1) (second ∷ rest) ≡ None → AreDigits (packed (second ∷ rest)))
    → (oddity_from (place + 2) rest ≡ None → AreDigits (packed rest)) → AreDigits (packed (first ∷ second ∷ rest))
first_byte place first second rest none after later = by (is_between first) (is_prefix first second) (oddity_of place first second) refl refl refl
  where
    by : (b p : Bool) (o : Option Oddity) → is_between first ≡ b → is_prefix first second ≡ p → oddity_of place first second ≡ o → AreDigits (packed (first ∷ second ∷ rest))
    by true p o e _ _ = rw e (after (sym (between_passes place first (second ∷ rest) e) ∙ none))
    by false true o e p _ = rw (e, p) (later (sym (prefix_passes place first second rest e p) ∙ none))
    by false false None e p o =
        let digits = two_digits place first second o in
        rw (e, p) (one_more first second (packed rest) digits.0 digits.1 (later (sym (byte_passes place first second rest e p o) ∙ none)))
    by false false (Some odd) e p o = absurd (cc (rw (e, p, o) at none))

-- it has such digits
are_digits : (place : ℕ) (text : List ℕ) → oddity_from place text ≡ None → AreDigits (packed text)
are_digits place [] none = record { even = refl; pass = All-nil (λ x. is_hex_digit x ≡ true) }
are_digits place (first ∷ []) none = last_digit place first none
are_digits place (first ∷ second ∷ rest) none = first_byte place first second rest none (are_digits (place + 1) (second ∷ rest)) (are_digits (place + 2) rest)

-- so it spells bytes
pub oddity_found : (text : List ℕ) → oddity_in text ≡ None → IsErr (bytes_of text) → ⊥
oddity_found text none err =
    let digits = are_digits 1 text none in
    let bytes = decode_pairs-digits 0 (packed text) digits.even digits.pass in
    let is : bytes_of text ≡ Ok bytes.0 = decode_of-even (packed text) digits.even ∙ bytes.1 in
    true≢false (sym (subst IsErr is err))

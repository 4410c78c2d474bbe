-- Each type's reading refuses exactly what is misspelled, and what is misspelled is no value of the type.
use Rattle.std.proofs.Common.{◌≡◌, ℕ, zero, suc, ◌+◌, ◌-◌, ◌*◌, ◌<◌, ◌≤◌, ◌⊎◌, inl, inr, List, [], ◌∷◌, ◌++◌, length, drop, Result, Ok, Err, refl, sym, ap, ◌∙◌, arith}
use Rattle.std.specs.Prelude.{◌↔◌}
use Rattle.std.proofs.lemmas.Bool.{cases_lt, lt-ltb, le-ltb, ne_eqb}
use Rattle.mq_wire.specs.declared.fault.Reason.{Reason}
use Rattle.mq_wire.specs.declared.fault.Reason.TheVariants.{Short, Overlong, NotUtf8, Nul}
use Rattle.mq_wire.specs.Fields.{byte_at, two_bytes_at, four_bytes_at, ended_by, fourth_byte, third_byte, second_byte, varint_at, binary_at, text_at, pair_at}
use Rattle.mq_wire.specs.FieldTypes.{FieldType, one_byte, two_byte_integer, four_byte_integer, variable_byte_integer, utf8_string, string_pair, binary_data, IsFieldValue, field_spelling}
use Rattle.mq_wire.specs.Spellings.{AreBytes, IsExact}
use Rattle.mq_wire.specs.Misspelled.{IsCutShort, BeginsWithNone, AllContinue, HasShorterForm, RunsPastFour, MisspelledNumber, MisspelledString, MisspelledPair, Misspelled, RefusesMisspelled}
use Rattle.mq_wire.proofs.Bytes.{AreBytes-drop}
use Rattle.mq_wire.proofs.Exact.{byte_exact, two_bytes_exact, four_bytes_exact, binary_exact, text_exact, pair_exact}
use Rattle.mq_wire.proofs.Varint.{varint_exact}
use Rattle.mq_wire.proofs.Refusals.{RefusesShort, stands_read, byte_refused, two_bytes_refused, four_bytes_refused, varint_refused, binary_refused, text_refused, pair_first, pair_second}

-- a reading that was refused for this
abbrev failed : {A : Type 0} → Reason → Result A Reason
failed reason = Err reason

failed_is : {A : Type 0} (a b : Reason) → failed {A = A} a ≡ failed b → a ≡ b
failed_is a b e = cc

-- ---- what is only ever cut short

short_only : {X : Type 0} {read : List ℕ → Result (X × ℕ) Reason} {IsValue : X → Type 0} {spelling : X → List ℕ} → RefusesShort read IsValue spelling
    → (bytes : List ℕ) (reason : Reason) → AreBytes bytes → (read bytes ≡ Err reason) ↔ (IsCutShort IsValue spelling bytes × (reason ≡ Short))
short_only {X} {read} refuses bytes reason fits = (
  λ e. let short = refuses.only_so bytes reason e in ((refuses.short bytes fits).0 (e ∙ ap (λ (r : Reason). failed r) short), short),
  λ h. (refuses.short bytes fits).1 h.0 ∙ ap (λ (r : Reason). failed r) (sym h.1),
)

pub byte_misspelled : RefusesMisspelled byte_at one_byte
byte_misspelled = record { exactly = short_only byte_refused }

pub two_bytes_misspelled : RefusesMisspelled two_bytes_at two_byte_integer
two_bytes_misspelled = record { exactly = short_only two_bytes_refused }

pub four_bytes_misspelled : RefusesMisspelled four_bytes_at four_byte_integer
four_bytes_misspelled = record { exactly = short_only four_bytes_refused }

pub binary_misspelled : RefusesMisspelled binary_at binary_data
binary_misspelled = record { exactly = short_only binary_refused }

-- ---- Variable Byte Integers

shorter_read : (front rest : List ℕ) → 0 < length front → length front ≤ 3 → AllContinue front → varint_at (front ++ 0 ∷ rest) ≡ Err Overlong
unfolding varint_at
shorter_read [] rest some most continues = absurd (omega (arith, some))
shorter_read (a ∷ []) rest some most continues = rw (le-ltb a 128 continues.0) refl
shorter_read (a ∷ b ∷ []) rest some most continues = rw (le-ltb a 128 continues.0, le-ltb b 128 continues.1.0) refl
shorter_read (a ∷ b ∷ c ∷ []) rest some most continues = rw (le-ltb a 128 continues.0, le-ltb b 128 continues.1.0, le-ltb c 128 continues.1.1.0) refl
shorter_read (a ∷ b ∷ c ∷ d ∷ front) rest some most continues = absurd (omega (arith, most))

past_four_read : (front rest : List ℕ) → length front ≡ 4 → AllContinue front → varint_at (front ++ rest) ≡ Err Overlong
unfolding varint_at
past_four_read [] rest four continues = absurd (omega (arith, four))
past_four_read (a ∷ []) rest four continues = absurd (omega (arith, four))
past_four_read (a ∷ b ∷ []) rest four continues = absurd (omega (arith, four))
past_four_read (a ∷ b ∷ c ∷ []) rest four continues = absurd (omega (arith, four))
past_four_read (a ∷ b ∷ c ∷ d ∷ []) rest four continues = rw (le-ltb a 128 continues.0, le-ltb b 128 continues.1.0, le-ltb c 128 continues.1.1.0, le-ltb d 128 continues.1.1.1.0) refl
past_four_read (a ∷ b ∷ c ∷ d ∷ e ∷ front) rest four continues = absurd (omega (arith, four))

-- the last byte of a number that is too long, if it has one
ended_zero : (last number taken : ℕ) → ended_by last number taken ≡ Err Overlong → last ≡ 0
ended_zero zero number taken e = refl
ended_zero (suc last) number taken e = absurd (let never = rw (ne_eqb (suc last) 0 (λ zero_last. omega arith)) at e in cc)

abbrev IsTooLong : List ℕ → Type 0
IsTooLong bytes = HasShorterForm bytes ⊎ RunsPastFour bytes

fourth_too_long : (a b c n : ℕ) (bytes : List ℕ) → 128 ≤ a → 128 ≤ b → 128 ≤ c → fourth_byte n bytes ≡ Err Overlong → IsTooLong (a ∷ b ∷ c ∷ bytes)
fourth_too_long a b c n [] ha hb hc e = absurd cc
fourth_too_long a b c n (d ∷ bytes) ha hb hc e =
    elim (cases_lt d 128) [
      | inl lt ↦
          let last : d ≡ 0 = ended_zero d _ _ (rw (lt-ltb d 128 lt) at e) in
          inl (record { front = a ∷ b ∷ c ∷ []; rest = bytes; some = omega arith; most = omega arith; continues = (ha, (hb, (hc, tt))); is = ap (λ (x : ℕ). a ∷ b ∷ c ∷ x ∷ bytes) last })
      | inr le ↦ inr (record { front = a ∷ b ∷ c ∷ d ∷ []; rest = bytes; four = refl; continues = (ha, (hb, (hc, (le, tt)))); is = refl })
    ]

third_too_long : (a b n : ℕ) (bytes : List ℕ) → 128 ≤ a → 128 ≤ b → third_byte n bytes ≡ Err Overlong → IsTooLong (a ∷ b ∷ bytes)
third_too_long a b n [] ha hb e = absurd cc
third_too_long a b n (c ∷ bytes) ha hb e =
    elim (cases_lt c 128) [
      | inl lt ↦
          let last : c ≡ 0 = ended_zero c _ _ (rw (lt-ltb c 128 lt) at e) in
          inl (record { front = a ∷ b ∷ []; rest = bytes; some = omega arith; most = omega arith; continues = (ha, (hb, tt)); is = ap (λ (x : ℕ). a ∷ b ∷ x ∷ bytes) last })
      | inr le ↦ fourth_too_long a b c (n + 16384 * (c - 128)) bytes ha hb le (rw (le-ltb c 128 le) at e)
    ]

second_too_long : (a n : ℕ) (bytes : List ℕ) → 128 ≤ a → second_byte n bytes ≡ Err Overlong → IsTooLong (a ∷ bytes)
second_too_long a n [] ha e = absurd cc
second_too_long a n (b ∷ bytes) ha e =
    elim (cases_lt b 128) [
      | inl lt ↦
          let last : b ≡ 0 = ended_zero b _ _ (rw (lt-ltb b 128 lt) at e) in
          inl (record { front = a ∷ []; rest = bytes; some = omega arith; most = omega arith; continues = (ha, tt); is = ap (λ (x : ℕ). a ∷ x ∷ bytes) last })
      | inr le ↦ third_too_long a b (n + 128 * (b - 128)) bytes ha le (rw (le-ltb b 128 le) at e)
    ]

too_long_from : (bytes : List ℕ) → varint_at bytes ≡ Err Overlong → IsTooLong bytes
unfolding varint_at
too_long_from [] e = absurd cc
too_long_from (a ∷ bytes) e =
    elim (cases_lt a 128) [
      | inl lt ↦ absurd (let never = rw (lt-ltb a 128 lt) at e in cc)
      | inr le ↦ second_too_long a (a - 128) bytes le (rw (le-ltb a 128 le) at e)
    ]

too_long_read : (bytes : List ℕ) → IsTooLong bytes → varint_at bytes ≡ Err Overlong
too_long_read bytes (inl h) = ap varint_at h.is ∙ shorter_read h.front h.rest h.some h.most h.continues
too_long_read bytes (inr h) = ap varint_at h.is ∙ past_four_read h.front h.rest h.four h.continues

varint_exactly : (bytes : List ℕ) (reason : Reason) → AreBytes bytes → (varint_at bytes ≡ Err reason) ↔ MisspelledNumber bytes reason
varint_exactly bytes Short fits = varint_refused.short bytes fits
varint_exactly bytes Overlong fits = (too_long_from bytes, too_long_read bytes)
varint_exactly bytes NotUtf8 fits = (λ e. elim (varint_refused.only_so bytes NotUtf8 e) [ inl short ↦ cc | inr over ↦ cc ], λ never. absurd never)
varint_exactly bytes Nul fits = (λ e. elim (varint_refused.only_so bytes Nul e) [ inl short ↦ cc | inr over ↦ cc ], λ never. absurd never)

pub varint_misspelled : RefusesMisspelled varint_at variable_byte_integer
varint_misspelled = record { exactly = varint_exactly }

-- ---- texts, and pairs of them

text_exactly : (bytes : List ℕ) (reason : Reason) → AreBytes bytes → (text_at bytes ≡ Err reason) ↔ MisspelledString bytes reason
text_exactly bytes Short fits = text_refused.short bytes fits
text_exactly bytes NotUtf8 fits = text_refused.not_utf8 bytes fits
text_exactly bytes Nul fits = text_refused.nul bytes fits
text_exactly bytes Overlong fits = (text_refused.only_so bytes fits, λ never. absurd never)

pub text_misspelled : RefusesMisspelled text_at utf8_string
text_misspelled = record { exactly = text_exactly }

-- after a name it is the value's reading that decides
pair_after : (bytes : List ℕ) (reason : Reason) → AreBytes bytes → pair_at bytes ≡ Err reason → (name : List ℕ × ℕ) → text_at bytes ≡ Ok name → (value : Result (List ℕ × ℕ) Reason) → text_at (drop name.1 bytes) ≡ value → MisspelledPair bytes reason
unfolding pair_at
pair_after bytes reason fits e name is (Ok value) found = absurd (let never = rw (is, found) at e in cc)
pair_after bytes reason fits e name is (Err other) found =
    let same : other ≡ reason = failed_is {A = (List ℕ × List ℕ) × ℕ} other reason (sym (pair_second bytes name.0 name.1 other is found) ∙ e) in
    inr (name.0, name.1, text_exact.only bytes name.0 name.1 fits is, (text_exactly (drop name.1 bytes) reason (AreBytes-drop name.1 bytes fits)).0 (found ∙ ap (λ (r : Reason). failed r) same))

pair_from : (bytes : List ℕ) (reason : Reason) → AreBytes bytes → pair_at bytes ≡ Err reason → (name : Result (List ℕ × ℕ) Reason) → text_at bytes ≡ name → MisspelledPair bytes reason
pair_from bytes reason fits e (Ok name) is = pair_after bytes reason fits e name is (text_at (drop name.1 bytes)) refl
pair_from bytes reason fits e (Err other) is =
    let same : other ≡ reason = failed_is {A = (List ℕ × List ℕ) × ℕ} other reason (sym (pair_first bytes other is) ∙ e) in
    inl ((text_exactly bytes reason fits).0 (is ∙ ap (λ (r : Reason). failed r) same))

pair_read : (bytes : List ℕ) (reason : Reason) → AreBytes bytes → MisspelledPair bytes reason → pair_at bytes ≡ Err reason
pair_read bytes reason fits (inl h) = pair_first bytes reason ((text_exactly bytes reason fits).1 h)
pair_read bytes reason fits (inr h) =
    pair_second bytes h.0 h.1 reason (stands_read text_exact bytes h.0 h.1 h.2) ((text_exactly (drop h.1 bytes) reason (AreBytes-drop h.1 bytes fits)).1 h.3)

pub pair_misspelled : RefusesMisspelled pair_at string_pair
pair_misspelled = record { exactly = λ bytes reason fits. (λ e. pair_from bytes reason fits e (text_at bytes) refl, pair_read bytes reason fits) }

-- ---- what is misspelled is no value, and for one reason

-- of an exact reading that refuses what is misspelled
none_exactly : {X : Type 0} {read : List ℕ → Result (X × ℕ) Reason} {IsValue : X → Type 0} {spelling : X → List ℕ} (type : FieldType) → IsExact read IsValue spelling → RefusesMisspelled read type
    → (bytes : List ℕ) → AreBytes bytes → ((reason : Reason) × Misspelled type bytes reason) ↔ BeginsWithNone IsValue spelling bytes
none_exactly {X} {read} {IsValue} {spelling} type exact refuses bytes fits = (none, λ never. some never (read bytes) refl)
  where
    none : ((reason : Reason) × Misspelled type bytes reason) → BeginsWithNone IsValue spelling bytes
    none h x n stands = (let never = sym (stands_read exact bytes x n stands) ∙ (refuses.exactly bytes h.0 fits).1 h.1 in cc)

    some : BeginsWithNone IsValue spelling bytes → (r : Result (X × ℕ) Reason) → read bytes ≡ r → (reason : Reason) × Misspelled type bytes reason
    some never (Ok x) e = absurd (never x.0 x.1 (exact.only bytes x.0 x.1 fits e))
    some never (Err reason) e = (reason, (refuses.exactly bytes reason fits).0 e)

pub misspelled_none : (type : FieldType) (bytes : List ℕ) → AreBytes bytes → ((reason : Reason) × Misspelled type bytes reason) ↔ BeginsWithNone (IsFieldValue type) (field_spelling type) bytes
misspelled_none one_byte bytes fits = none_exactly one_byte byte_exact byte_misspelled bytes fits
misspelled_none two_byte_integer bytes fits = none_exactly two_byte_integer two_bytes_exact two_bytes_misspelled bytes fits
misspelled_none four_byte_integer bytes fits = none_exactly four_byte_integer four_bytes_exact four_bytes_misspelled bytes fits
misspelled_none variable_byte_integer bytes fits = none_exactly variable_byte_integer varint_exact varint_misspelled bytes fits
misspelled_none utf8_string bytes fits = none_exactly utf8_string text_exact text_misspelled bytes fits
misspelled_none string_pair bytes fits = none_exactly string_pair pair_exact pair_misspelled bytes fits
misspelled_none binary_data bytes fits = none_exactly binary_data binary_exact binary_misspelled bytes fits

one_of : {X : Type 0} {read : List ℕ → Result (X × ℕ) Reason} (type : FieldType) → RefusesMisspelled read type → (bytes : List ℕ) (reason other : Reason) → AreBytes bytes → Misspelled type bytes reason → Misspelled type bytes other → reason ≡ other
one_of {X} type refuses bytes reason other fits h k = failed_is {A = X × ℕ} reason other (sym ((refuses.exactly bytes reason fits).1 h) ∙ (refuses.exactly bytes other fits).1 k)

pub misspelled_once : (type : FieldType) (bytes : List ℕ) (reason other : Reason) → AreBytes bytes → Misspelled type bytes reason → Misspelled type bytes other → reason ≡ other
misspelled_once one_byte bytes reason other fits h k = one_of one_byte byte_misspelled bytes reason other fits h k
misspelled_once two_byte_integer bytes reason other fits h k = one_of two_byte_integer two_bytes_misspelled bytes reason other fits h k
misspelled_once four_byte_integer bytes reason other fits h k = one_of four_byte_integer four_bytes_misspelled bytes reason other fits h k
misspelled_once variable_byte_integer bytes reason other fits h k = one_of variable_byte_integer varint_misspelled bytes reason other fits h k
misspelled_once utf8_string bytes reason other fits h k = one_of utf8_string text_misspelled bytes reason other fits h k
misspelled_once string_pair bytes reason other fits h k = one_of string_pair pair_misspelled bytes reason other fits h k
misspelled_once binary_data bytes reason other fits h k = one_of binary_data binary_misspelled bytes reason other fits h k

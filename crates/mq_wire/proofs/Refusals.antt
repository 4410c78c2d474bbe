-- Why each kind of field is refused.
use Rattle.std.proofs.Common.{◌≡◌, ℕ, zero, suc, ◌+◌, ◌-◌, ◌*◌, ◌<◌, ◌⊎◌, Bool, true, false, cond, List, [], ◌∷◌, ◌++◌, length, drop, Result, Ok, Err, refl, sym, ap, ◌∙◌, inl, inr, arith}
use Rattle.std.specs.Prelude.{◌≢◌, ◌↔◌, replicate}
use Rattle.std.specs.Int.{w16, w32, from_be_bytes}
use Rattle.std.specs.Str.{IsUtf8, is_utf8}
use Rattle.std.proofs.lemmas.Bool.{cases_lt, lt-ltb, le-ltb, ne_eqb}
use Rattle.std.proofs.lemmas.List.{append-nil, length-append, length-replicate}
use Rattle.std.proofs.lemmas.Str.{IsUtf8-from_is_utf8, is_utf8-from_IsUtf8}
use Rattle.mq_wire.specs.declared.fault.Reason.{Reason}
use Rattle.mq_wire.specs.declared.fault.Reason.TheVariants.{Short, Overlong, NotUtf8, Nul}
use Rattle.mq_wire.specs.Fields.{◌>>=◌, byte_at, two_bytes_at, four_bytes_at, ended_by, fourth_byte, third_byte, second_byte, varint_at, counted_bytes, binary_at, text_of, text_at, pair_at}
use Rattle.mq_wire.specs.Spellings.{AreBytes, IsByte, byte_spelling, IsTwoBytes, two_bytes_spelling, IsFourBytes, four_bytes_spelling, IsVarint, varint_spelling, IsBinary, binary_spelling, has_nul, BeginsWith, IsExact}
use Rattle.mq_wire.specs.Misspelled.{IsCutShort, BeginsWithNone, IsNotUtf8, HasNul}
use Rattle.mq_wire.proofs.Bytes.{AreBytes-nil, AreBytes-cons}
use Rattle.mq_wire.proofs.Exact.{done, done_is, byte_exact, two_bytes_from, two_bytes_exact, four_bytes_from, four_bytes_exact, binary_exact, exact_settled}
use Rattle.mq_wire.proofs.Texts.{not_utf8, with_nul}
use Rattle.mq_wire.proofs.Varint.{spelling_of_1, spelling_of_2, spelling_of_3, spelling_of_4, varint_exact, varint_settled}

-- a reading that refuses nothing but bytes that end before the field does
pub record RefusesShort {X : Type 0} (read : List ℕ → Result (X × ℕ) Reason) (IsValue : X → Type 0) (spelling : X → List ℕ) : Type 0 where
  pub short : (bytes : List ℕ) → AreBytes bytes → (read bytes ≡ Err Short) ↔ IsCutShort IsValue spelling bytes
  pub only_so : (bytes : List ℕ) (reason : Reason) → read bytes ≡ Err reason → reason ≡ Short

-- numbers that end too early, and those that are too long: neither cut short nor spelled
pub record RefusesVarints : Type 0 where
  pub short : (bytes : List ℕ) → AreBytes bytes → (varint_at bytes ≡ Err Short) ↔ IsCutShort IsVarint varint_spelling bytes
  pub overlong : (bytes : List ℕ) → AreBytes bytes → (varint_at bytes ≡ Err Overlong) ↔ ((¬ IsCutShort IsVarint varint_spelling bytes) × BeginsWithNone IsVarint varint_spelling bytes)
  pub only_so : (bytes : List ℕ) (reason : Reason) → varint_at bytes ≡ Err reason → (reason ≡ Short) ⊎ (reason ≡ Overlong)

-- texts that end too early, else those that aren't UTF-8, else those with U+0000
pub record RefusesTexts : Type 0 where
  pub short : (bytes : List ℕ) → AreBytes bytes → (text_at bytes ≡ Err Short) ↔ IsCutShort IsBinary binary_spelling bytes
  pub not_utf8 : (bytes : List ℕ) → AreBytes bytes → (text_at bytes ≡ Err NotUtf8) ↔ IsNotUtf8 bytes
  pub nul : (bytes : List ℕ) → AreBytes bytes → (text_at bytes ≡ Err Nul) ↔ HasNul bytes
  pub only_so : (bytes : List ℕ) → AreBytes bytes → text_at bytes ≢ Err Overlong

-- a reading that was refused for this
abbrev failed : {A : Type 0} → Reason → Result A Reason
failed reason = Err reason

-- a text, with how many bytes its field takes
abbrev sized : ℕ → List ℕ → Result (List ℕ × ℕ) Reason
sized n text = Ok (text, n)

-- one zero byte
zero_byte : AreBytes (0 ∷ [])
zero_byte = AreBytes-cons 0 [] (omega arith) AreBytes-nil

-- where the bytes are cut short no value is read
cut_not_read : {X : Type 0} {read : List ℕ → Result (X × ℕ) Reason} {IsValue : X → Type 0} {spelling : X → List ℕ} → IsExact read IsValue spelling → (bytes : List ℕ) → AreBytes bytes → IsCutShort IsValue spelling bytes → (y : X × ℕ) → read bytes ≡ Ok y → ⊥
cut_not_read {X} {read} {IsValue} {spelling} exact bytes fits cut y e =
    let stands = exact.only bytes y.0 y.1 fits e in
    let longer : read (bytes ++ cut.missing) ≡ Ok (y.0, y.1) = exact_settled exact bytes cut.missing y.0 y.1 fits e in
    let whole : read (bytes ++ cut.missing) ≡ Ok (cut.value, length (spelling cut.value)) = ap read (sym cut.whole ∙ sym (append-nil (spelling cut.value))) ∙ exact.all cut.value [] cut.is_value in
    let made : X × ℕ = (y.0, y.1) in
    let found : X × ℕ = (cut.value, length (spelling cut.value)) in
    let same : made ≡ found = done_is made found (sym longer ∙ whole) in
    let taken : y.1 ≡ length (spelling cut.value) = ap (λ (z : X × ℕ). z.1) same in
    let size = ap (λ (z : List ℕ). length z) cut.whole in
    let front = ap (λ (z : List ℕ). length z) stands.spelled in
    omega (arith, length-append bytes cut.missing, length-append (spelling y.0) (drop y.1 bytes), stands.taken, taken, size, front, cut.some_missing)

-- a result that is no value and can only be Short is Short
short_left : {A : Type 0} (r : Result A Reason) → ((y : A) → r ≡ Ok y → ⊥) → ((reason : Reason) → r ≡ Err reason → reason ≡ Short) → r ≡ Err Short
short_left (Ok y) never only = absurd (never y refl)
short_left {A} (Err reason) never only = ap (λ (x : Reason). failed {A = A} x) (only reason refl)

-- a reading that is exact and refuses only what is Short, with a completion wherever it does
refuses_short : {X : Type 0} {read : List ℕ → Result (X × ℕ) Reason} {IsValue : X → Type 0} {spelling : X → List ℕ} → IsExact read IsValue spelling
    → ((bytes : List ℕ) (reason : Reason) → read bytes ≡ Err reason → reason ≡ Short)
    → ((bytes : List ℕ) → AreBytes bytes → read bytes ≡ Err Short → IsCutShort IsValue spelling bytes)
    → RefusesShort read IsValue spelling
refuses_short {X} {read} exact only cut = record {
  short = λ bytes fits. (cut bytes fits, λ is_cut. short_left (read bytes) (cut_not_read exact bytes fits is_cut) (only bytes));
  only_so = only;
}

-- the reasons of two refusals are one
err_is : {A : Type 0} (a b : Reason) → (let r : Result A Reason = Err a in r) ≡ Err b → a ≡ b
err_is a b e = cc

-- ---- integers of one, two and four bytes

byte_reason : (bytes : List ℕ) (reason : Reason) → byte_at bytes ≡ Err reason → reason ≡ Short
byte_reason [] reason e = cc
byte_reason (a ∷ bytes) reason e = absurd cc

byte_cut : (bytes : List ℕ) → AreBytes bytes → byte_at bytes ≡ Err Short → IsCutShort IsByte byte_spelling bytes
byte_cut [] fits e = record { value = 0; is_value = omega arith; missing = 0 ∷ []; some_missing = omega arith; whole = refl }
byte_cut (a ∷ bytes) fits e = absurd cc

pub byte_refused : RefusesShort byte_at IsByte byte_spelling
byte_refused = refuses_short byte_exact byte_reason byte_cut

two_bytes_reason : (bytes : List ℕ) (reason : Reason) → two_bytes_at bytes ≡ Err reason → reason ≡ Short
two_bytes_reason [] reason e = cc
two_bytes_reason (a ∷ []) reason e = cc
two_bytes_reason (a ∷ b ∷ bytes) reason e = absurd cc

two_bytes_cut : (bytes : List ℕ) → AreBytes bytes → two_bytes_at bytes ≡ Err Short → IsCutShort IsTwoBytes two_bytes_spelling bytes
two_bytes_cut [] fits e = record { value = 0; is_value = omega arith; missing = 0 ∷ 0 ∷ []; some_missing = omega arith; whole = refl }
two_bytes_cut (a ∷ []) fits e =
    let byte : a < 256 = fits 0 in
    record { value = from_be_bytes w16 (a ∷ 0 ∷ []); is_value = omega arith; missing = 0 ∷ []; some_missing = omega arith; whole = two_bytes_from a 0 [] (AreBytes-cons a (0 ∷ []) byte zero_byte) }
two_bytes_cut (a ∷ b ∷ bytes) fits e = absurd cc

pub two_bytes_refused : RefusesShort two_bytes_at IsTwoBytes two_bytes_spelling
two_bytes_refused = refuses_short two_bytes_exact two_bytes_reason two_bytes_cut

four_bytes_reason : (bytes : List ℕ) (reason : Reason) → four_bytes_at bytes ≡ Err reason → reason ≡ Short
four_bytes_reason [] reason e = cc
four_bytes_reason (a ∷ []) reason e = cc
four_bytes_reason (a ∷ b ∷ []) reason e = cc
four_bytes_reason (a ∷ b ∷ c ∷ []) reason e = cc
four_bytes_reason (a ∷ b ∷ c ∷ d ∷ bytes) reason e = absurd cc

-- four bytes, of which those after the front are missing
four_bytes_of : (front missing : List ℕ) (a b c d : ℕ) → a ∷ b ∷ c ∷ d ∷ [] ≡ front ++ missing → 0 < length missing → AreBytes (a ∷ b ∷ c ∷ d ∷ []) → IsCutShort IsFourBytes four_bytes_spelling front
four_bytes_of front missing a b c d is some_missing fits =
    record { value = from_be_bytes w32 (a ∷ b ∷ c ∷ d ∷ []); is_value = omega (arith, fits 0, fits 1, fits 2, fits 3); missing = missing; some_missing = some_missing; whole = four_bytes_from a b c d [] fits ∙ is }

are_four : (a b c d : ℕ) → a < 256 → b < 256 → c < 256 → d < 256 → AreBytes (a ∷ b ∷ c ∷ d ∷ [])
are_four a b c d ha hb hc hd = AreBytes-cons a (b ∷ c ∷ d ∷ []) ha (AreBytes-cons b (c ∷ d ∷ []) hb (AreBytes-cons c (d ∷ []) hc (AreBytes-cons d [] hd AreBytes-nil)))

four_bytes_cut : (bytes : List ℕ) → AreBytes bytes → four_bytes_at bytes ≡ Err Short → IsCutShort IsFourBytes four_bytes_spelling bytes
four_bytes_cut [] fits e = four_bytes_of [] (0 ∷ 0 ∷ 0 ∷ 0 ∷ []) 0 0 0 0 refl (omega arith) (are_four 0 0 0 0 (omega arith) (omega arith) (omega arith) (omega arith))
four_bytes_cut (a ∷ []) fits e = four_bytes_of (a ∷ []) (0 ∷ 0 ∷ 0 ∷ []) a 0 0 0 refl (omega arith) (are_four a 0 0 0 (fits 0) (omega arith) (omega arith) (omega arith))
four_bytes_cut (a ∷ b ∷ []) fits e = four_bytes_of (a ∷ b ∷ []) (0 ∷ 0 ∷ []) a b 0 0 refl (omega arith) (are_four a b 0 0 (fits 0) (fits 1) (omega arith) (omega arith))
four_bytes_cut (a ∷ b ∷ c ∷ []) fits e = four_bytes_of (a ∷ b ∷ c ∷ []) (0 ∷ []) a b c 0 refl (omega arith) (are_four a b c 0 (fits 0) (fits 1) (fits 2) (omega arith))
four_bytes_cut (a ∷ b ∷ c ∷ d ∷ bytes) fits e = absurd cc

pub four_bytes_refused : RefusesShort four_bytes_at IsFourBytes four_bytes_spelling
four_bytes_refused = refuses_short four_bytes_exact four_bytes_reason four_bytes_cut

-- ---- Variable Byte Integers

ended_reason : (last number taken : ℕ) (reason : Reason) → ended_by last number taken ≡ Err reason → reason ≡ Overlong
ended_reason zero number taken reason e = cc
ended_reason (suc last) number taken reason e = absurd (let never = rw (ne_eqb (suc last) 0 (λ zero_last. omega arith)) at e in cc)

fourth_short : (p q r : ℕ) (bytes : List ℕ) → p < 128 → q < 128 → r < 128 → fourth_byte (p + 128 * q + 16384 * r) bytes ≡ Err Short → IsCutShort IsVarint varint_spelling ((128 + p) ∷ (128 + q) ∷ (128 + r) ∷ bytes)
fourth_short p q r [] hp hq hr e =
    record { value = p + 128 * q + 16384 * r + 2097152 * 1; is_value = omega arith; missing = 1 ∷ []; some_missing = omega arith; whole = spelling_of_4 (p + 128 * q + 16384 * r + 2097152 * 1) p q r 1 refl hp hq hr (omega arith) }
fourth_short p q r (d ∷ bytes) hp hq hr e =
    elim (cases_lt d 128) [
      | inl lt ↦ absurd (let over = ended_reason d _ _ Short (rw (lt-ltb d 128 lt) at e) in cc)
      | inr le ↦ absurd (let never = rw (le-ltb d 128 le) at e in cc)
    ]

third_short : (p q : ℕ) (bytes : List ℕ) → p < 128 → q < 128 → AreBytes bytes → third_byte (p + 128 * q) bytes ≡ Err Short → IsCutShort IsVarint varint_spelling ((128 + p) ∷ (128 + q) ∷ bytes)
third_short p q [] hp hq fits e =
    record { value = p + 128 * q + 16384 * 1; is_value = omega arith; missing = 1 ∷ []; some_missing = omega arith; whole = spelling_of_3 (p + 128 * q + 16384 * 1) p q 1 refl hp hq (omega arith) (omega arith) }
third_short p q (c ∷ bytes) hp hq fits e =
    elim (cases_lt c 128) [
      | inl lt ↦ absurd (let over = ended_reason c _ _ Short (rw (lt-ltb c 128 lt) at e) in cc)
      | inr le ↦
          let byte : c < 256 = fits 0 in
          let third : 128 + (c - 128) ≡ c = omega arith in
          let cut = fourth_short p q (c - 128) bytes hp hq (omega arith) (rw (le-ltb c 128 le) at e) in
          rw third at cut
    ]

second_short : (p : ℕ) (bytes : List ℕ) → p < 128 → AreBytes bytes → second_byte p bytes ≡ Err Short → IsCutShort IsVarint varint_spelling ((128 + p) ∷ bytes)
second_short p [] hp fits e =
    record { value = p + 128 * 1; is_value = omega arith; missing = 1 ∷ []; some_missing = omega arith; whole = spelling_of_2 (p + 128 * 1) p 1 refl hp (omega arith) (omega arith) }
second_short p (b ∷ bytes) hp fits e =
    elim (cases_lt b 128) [
      | inl lt ↦ absurd (let over = ended_reason b _ _ Short (rw (lt-ltb b 128 lt) at e) in cc)
      | inr le ↦
          let byte : b < 256 = fits 0 in
          let second : 128 + (b - 128) ≡ b = omega arith in
          let cut = third_short p (b - 128) bytes hp (omega arith) (λ i. fits (suc i)) (rw (le-ltb b 128 le) at e) in
          rw second at cut
    ]

varint_cut : (bytes : List ℕ) → AreBytes bytes → varint_at bytes ≡ Err Short → IsCutShort IsVarint varint_spelling bytes
unfolding varint_at
varint_cut [] fits e = record { value = 0; is_value = omega arith; missing = 0 ∷ []; some_missing = omega arith; whole = spelling_of_1 0 (omega arith) }
varint_cut (a ∷ bytes) fits e =
    elim (cases_lt a 128) [
      | inl lt ↦ absurd (let never = rw (lt-ltb a 128 lt) at e in cc)
      | inr le ↦
          let byte : a < 256 = fits 0 in
          let first : 128 + (a - 128) ≡ a = omega arith in
          let cut = second_short (a - 128) bytes (omega arith) (λ i. fits (suc i)) (rw (le-ltb a 128 le) at e) in
          rw first at cut
    ]

fourth_reason : (n : ℕ) (bytes : List ℕ) (reason : Reason) → fourth_byte n bytes ≡ Err reason → (reason ≡ Short) ⊎ (reason ≡ Overlong)
fourth_reason n [] reason e = inl cc
fourth_reason n (d ∷ bytes) reason e =
    elim (cases_lt d 128) [
      | inl lt ↦ inr (ended_reason d _ _ reason (rw (lt-ltb d 128 lt) at e))
      | inr le ↦ inr (let over = rw (le-ltb d 128 le) at e in cc)
    ]

third_reason : (n : ℕ) (bytes : List ℕ) (reason : Reason) → third_byte n bytes ≡ Err reason → (reason ≡ Short) ⊎ (reason ≡ Overlong)
third_reason n [] reason e = inl cc
third_reason n (c ∷ bytes) reason e =
    elim (cases_lt c 128) [
      | inl lt ↦ inr (ended_reason c _ _ reason (rw (lt-ltb c 128 lt) at e))
      | inr le ↦ fourth_reason (n + 16384 * (c - 128)) bytes reason (rw (le-ltb c 128 le) at e)
    ]

second_reason : (n : ℕ) (bytes : List ℕ) (reason : Reason) → second_byte n bytes ≡ Err reason → (reason ≡ Short) ⊎ (reason ≡ Overlong)
second_reason n [] reason e = inl cc
second_reason n (b ∷ bytes) reason e =
    elim (cases_lt b 128) [
      | inl lt ↦ inr (ended_reason b _ _ reason (rw (lt-ltb b 128 lt) at e))
      | inr le ↦ third_reason (n + 128 * (b - 128)) bytes reason (rw (le-ltb b 128 le) at e)
    ]

varint_reason : (bytes : List ℕ) (reason : Reason) → varint_at bytes ≡ Err reason → (reason ≡ Short) ⊎ (reason ≡ Overlong)
unfolding varint_at
varint_reason [] reason e = inl cc
varint_reason (a ∷ bytes) reason e =
    elim (cases_lt a 128) [
      | inl lt ↦ absurd (let never = rw (lt-ltb a 128 lt) at e in cc)
      | inr le ↦ second_reason (a - 128) bytes reason (rw (le-ltb a 128 le) at e)
    ]

-- the bytes of a number that is too long aren't the beginning of another
overlong_not_cut : (bytes : List ℕ) → varint_at bytes ≡ Err Overlong → IsCutShort IsVarint varint_spelling bytes → ⊥
overlong_not_cut bytes e cut =
    let whole : varint_at (bytes ++ cut.missing) ≡ Ok (cut.value, length (varint_spelling cut.value)) = ap varint_at (sym cut.whole ∙ sym (append-nil (varint_spelling cut.value))) ∙ varint_exact.all cut.value [] cut.is_value in
    let settled : varint_at (bytes ++ cut.missing) ≡ varint_at bytes = varint_settled bytes cut.missing (λ short. let never = sym short ∙ e in cc) in
    let never = sym whole ∙ settled ∙ e in
    cc

-- where the bytes are cut short, so is the number
varint_short : (bytes : List ℕ) → AreBytes bytes → IsCutShort IsVarint varint_spelling bytes → (r : Result (ℕ × ℕ) Reason) → varint_at bytes ≡ r → varint_at bytes ≡ Err Short
varint_short bytes fits cut (Ok y) e = absurd (cut_not_read varint_exact bytes fits cut y e)
varint_short bytes fits cut (Err reason) e =
    elim (varint_reason bytes reason e) [
      | inl short ↦ e ∙ ap (λ (x : Reason). Err x) short
      | inr over ↦ absurd (overlong_not_cut bytes (e ∙ ap (λ (x : Reason). Err x) over) cut)
    ]

-- where no number stands and none is cut short, it is too long
varint_overlong : (bytes : List ℕ) → AreBytes bytes → (IsCutShort IsVarint varint_spelling bytes → ⊥) → BeginsWithNone IsVarint varint_spelling bytes → (r : Result (ℕ × ℕ) Reason) → varint_at bytes ≡ r → varint_at bytes ≡ Err Overlong
varint_overlong bytes fits not_cut none (Ok y) e = absurd (none y.0 y.1 (varint_exact.only bytes y.0 y.1 fits e))
varint_overlong bytes fits not_cut none (Err reason) e =
    elim (varint_reason bytes reason e) [
      | inl short ↦ absurd (not_cut (varint_cut bytes fits (e ∙ ap (λ (x : Reason). Err x) short)))
      | inr over ↦ e ∙ ap (λ (x : Reason). Err x) over
    ]

-- what stands at the front of the bytes is read
pub stands_read : {X : Type 0} {read : List ℕ → Result (X × ℕ) Reason} {IsValue : X → Type 0} {spelling : X → List ℕ} → IsExact read IsValue spelling → (bytes : List ℕ) (x : X) (n : ℕ) → BeginsWith IsValue spelling bytes x n → read bytes ≡ Ok (x, n)
stands_read {X} {read} exact bytes x n stands =
    ap read stands.spelled ∙ exact.all x (drop n bytes) stands.value ∙ ap (λ (k : ℕ). Ok (x, k)) (sym stands.taken)

pub varint_refused : RefusesVarints
varint_refused = record {
  short = λ bytes fits. (varint_cut bytes fits, λ cut. varint_short bytes fits cut (varint_at bytes) refl);
  overlong = λ bytes fits. (
    λ e. (overlong_not_cut bytes e, λ x n stands. let never = sym (stands_read varint_exact bytes x n stands) ∙ e in cc),
    λ h. varint_overlong bytes fits h.0 h.1 (varint_at bytes) refl,
  );
  only_so = varint_reason;
}

-- ---- binary data

counted_reason : (n : ℕ) (bytes : List ℕ) (reason : Reason) → counted_bytes n bytes ≡ Err reason → reason ≡ Short
counted_reason n bytes reason e =
    elim (cases_lt (length bytes) n) [
      | inl lt ↦ (let short = rw (lt-ltb (length bytes) n lt) at e in cc)
      | inr le ↦ absurd (let never = rw (le-ltb (length bytes) n le) at e in cc)
    ]

binary_reason : (bytes : List ℕ) (reason : Reason) → binary_at bytes ≡ Err reason → reason ≡ Short
unfolding binary_at
binary_reason [] reason e = cc
binary_reason (a ∷ []) reason e = cc
binary_reason (a ∷ b ∷ bytes) reason e = counted_reason (from_be_bytes w16 (a ∷ b ∷ [])) bytes reason e

-- n bytes after a length that says so, of which some are missing
binary_of : (front missing : List ℕ) (a b : ℕ) (content : List ℕ) → AreBytes (a ∷ b ∷ []) → length content ≡ from_be_bytes w16 (a ∷ b ∷ []) → a ∷ b ∷ content ≡ front ++ missing → 0 < length missing → IsCutShort IsBinary binary_spelling front
binary_of front missing a b content fits size is some_missing =
    record {
      value = content;
      is_value = omega (arith, fits 0, fits 1, size);
      missing = missing;
      some_missing = some_missing;
      whole = ap (λ (n : ℕ). two_bytes_spelling n ++ content) size ∙ ap (λ (head : List ℕ). head ++ content) (two_bytes_from a b [] fits) ∙ is;
    }

binary_cut : (bytes : List ℕ) → AreBytes bytes → binary_at bytes ≡ Err Short → IsCutShort IsBinary binary_spelling bytes
unfolding binary_at
binary_cut [] fits e = binary_of [] (0 ∷ 0 ∷ []) 0 0 [] (AreBytes-cons 0 (0 ∷ []) (omega arith) zero_byte) refl refl (omega arith)
binary_cut (a ∷ []) fits e =
    let n = from_be_bytes w16 (a ∷ 0 ∷ []) in
    binary_of (a ∷ []) (0 ∷ replicate n 0) a 0 (replicate n 0) (AreBytes-cons a (0 ∷ []) (fits 0) zero_byte) (length-replicate {A = ℕ} n 0) refl (omega arith)
binary_cut (a ∷ b ∷ bytes) fits e =
    let n = from_be_bytes w16 (a ∷ b ∷ []) in
    elim (cases_lt (length bytes) n) [
      | inl lt ↦
          let more = replicate (n - length bytes) 0 in
          let size : length (bytes ++ more) ≡ n = omega (arith, length-append bytes more, length-replicate {A = ℕ} (n - length bytes) 0) in
          binary_of (a ∷ b ∷ bytes) more a b (bytes ++ more) (AreBytes-cons a (b ∷ []) (fits 0) (AreBytes-cons b [] (fits 1) AreBytes-nil)) size refl (omega (arith, length-replicate {A = ℕ} (n - length bytes) 0))
      | inr le ↦ absurd (let never = rw (le-ltb (length bytes) n le) at e in cc)
    ]

pub binary_refused : RefusesShort binary_at IsBinary binary_spelling
binary_refused = refuses_short binary_exact binary_reason binary_cut

-- ---- texts

-- the fault of a binary field is the text's
text_of_fault : (bytes : List ℕ) (reason : Reason) → binary_at bytes ≡ Err reason → text_at bytes ≡ Err reason
unfolding text_at
text_of_fault bytes reason e = ap (λ (found : Result (List ℕ × ℕ) Reason). found >>= λ n. text_of n.0 >>= λ text. Ok (text, n.1)) e

-- after binary data it is its content that decides
text_of_content : (bytes x : List ℕ) (n : ℕ) → binary_at bytes ≡ Ok (x, n) → text_at bytes ≡ (text_of x >>= sized n)
unfolding text_at
text_of_content bytes x n e = ap (λ (found : Result (List ℕ × ℕ) Reason). found >>= λ n. text_of n.0 >>= λ text. Ok (text, n.1)) e

-- either the text of a field is refused, or it isn't
text_of_refuses : (x : List ℕ) (n : ℕ) (reason : Reason) → (text_of x >>= sized n) ≡ Err reason → text_of x ≡ Err reason
text_of_refuses x n reason e = refuses (text_of x) e
  where
    refuses : (r : Result (List ℕ) Reason) → (r >>= sized n) ≡ Err reason → r ≡ Err reason
    refuses (Ok text) h = absurd cc
    refuses (Err other) h = ap (λ (y : Reason). Err y) (err_is {A = List ℕ × ℕ} other reason h)

-- what the content's fault says of it
text_of_reason : (x : List ℕ) (reason : Reason) → text_of x ≡ Err reason → ((reason ≡ NotUtf8) × (IsUtf8 x → ⊥)) ⊎ ((reason ≡ Nul) × IsUtf8 x × (has_nul x ≡ true))
unfolding text_of
text_of_reason x reason e = decide (is_utf8 x) refl e
  where
    no_text : (utf8 : IsUtf8 x) (nul : Bool) → has_nul x ≡ nul → cond nul (Err Nul) (done x) ≡ Err reason → ((reason ≡ NotUtf8) × (IsUtf8 x → ⊥)) ⊎ ((reason ≡ Nul) × IsUtf8 x × (has_nul x ≡ true))
    no_text utf8 true is h = inr (cc, utf8, is)
    no_text utf8 false is h = absurd cc

    decide : (utf8 : Bool) → is_utf8 x ≡ utf8 → cond utf8 (cond (has_nul x) (Err Nul) (done x)) (Err NotUtf8) ≡ Err reason → ((reason ≡ NotUtf8) × (IsUtf8 x → ⊥)) ⊎ ((reason ≡ Nul) × IsUtf8 x × (has_nul x ≡ true))
    decide true is h = no_text (IsUtf8-from_is_utf8 x is) (has_nul x) refl h
    decide false is h = inl (cc, λ utf8. let never = sym is ∙ is_utf8-from_IsUtf8 x utf8 in cc)

-- what a refused text is: cut short, or binary data whose content is refused
pub record IsRefusedText (bytes : List ℕ) (reason : Reason) (x : List ℕ) (n : ℕ) : Type 0 where
  pub stands : BeginsWith IsBinary binary_spelling bytes x n
  pub fault : ((reason ≡ NotUtf8) × (IsUtf8 x → ⊥)) ⊎ ((reason ≡ Nul) × IsUtf8 x × (has_nul x ≡ true))

text_reason : (bytes : List ℕ) (reason : Reason) → AreBytes bytes → (r : Result (List ℕ × ℕ) Reason) → binary_at bytes ≡ r → text_at bytes ≡ Err reason → ((reason ≡ Short) × (binary_at bytes ≡ Err Short)) ⊎ ((x : List ℕ) × (n : ℕ) × IsRefusedText bytes reason x n)
text_reason bytes reason fits (Ok y) is e =
    inr (y.0, y.1, record { stands = binary_exact.only bytes y.0 y.1 fits is; fault = text_of_reason y.0 reason (text_of_refuses y.0 y.1 reason (sym (text_of_content bytes y.0 y.1 is) ∙ e)) })
text_reason bytes reason fits (Err other) is e =
    let same : other ≡ reason = err_is {A = List ℕ × ℕ} other reason (sym (text_of_fault bytes other is) ∙ e) in
    let short : other ≡ Short = binary_reason bytes other is in
    inl (sym same ∙ short, is ∙ ap (λ (y : Reason). Err y) short)

text_short : (bytes : List ℕ) → AreBytes bytes → text_at bytes ≡ Err Short → IsCutShort IsBinary binary_spelling bytes
text_short bytes fits e =
    elim (text_reason bytes Short fits (binary_at bytes) refl e) [
      | inl short ↦ binary_cut bytes fits short.1
      | inr found ↦ elim found.2.fault [ inl bad ↦ absurd (let never = bad.0 in cc) | inr bad ↦ absurd (let never = bad.0 in cc) ]
    ]

text_not_utf8 : (bytes : List ℕ) → AreBytes bytes → text_at bytes ≡ Err NotUtf8 → (x : List ℕ) × (n : ℕ) × BeginsWith IsBinary binary_spelling bytes x n × (IsUtf8 x → ⊥)
text_not_utf8 bytes fits e =
    elim (text_reason bytes NotUtf8 fits (binary_at bytes) refl e) [
      | inl short ↦ absurd (let never = short.0 in cc)
      | inr found ↦ (found.0, found.1, found.2.stands, elim found.2.fault [ inl bad ↦ bad.1 | inr bad ↦ absurd (let never = bad.0 in cc) ])
    ]

text_nul : (bytes : List ℕ) → AreBytes bytes → text_at bytes ≡ Err Nul → (x : List ℕ) × (n : ℕ) × BeginsWith IsBinary binary_spelling bytes x n × IsUtf8 x × (has_nul x ≡ true)
text_nul bytes fits e =
    elim (text_reason bytes Nul fits (binary_at bytes) refl e) [
      | inl short ↦ absurd (let never = short.0 in cc)
      | inr found ↦ elim found.2.fault [ inl bad ↦ absurd (let never = bad.0 in cc) | inr bad ↦ (found.0, found.1, found.2.stands, bad.1, bad.2) ]
    ]

text_never_overlong : (bytes : List ℕ) → AreBytes bytes → text_at bytes ≡ Err Overlong → ⊥
text_never_overlong bytes fits e =
    elim (text_reason bytes Overlong fits (binary_at bytes) refl e) [
      | inl short ↦ (let never = short.0 in cc)
      | inr found ↦ elim found.2.fault [ inl bad ↦ (let never = bad.0 in cc) | inr bad ↦ (let never = bad.0 in cc) ]
    ]

-- the content's fault is the field's
content_fault : (bytes x : List ℕ) (n : ℕ) (reason : Reason) → BeginsWith IsBinary binary_spelling bytes x n → text_of x ≡ Err reason → text_at bytes ≡ Err reason
content_fault bytes x n reason stands e =
    text_of_content bytes x n (stands_read binary_exact bytes x n stands) ∙ ap (λ (r : Result (List ℕ) Reason). r >>= sized n) e

pub text_refused : RefusesTexts
text_refused = record {
  short = λ bytes fits. (text_short bytes fits, λ cut. text_of_fault bytes Short ((binary_refused.short bytes fits).1 cut));
  not_utf8 = λ bytes fits. (text_not_utf8 bytes fits, λ h. content_fault bytes h.0 h.1 NotUtf8 h.2 (not_utf8 h.0 h.3));
  nul = λ bytes fits. (text_nul bytes fits, λ h. content_fault bytes h.0 h.1 Nul h.2 (with_nul h.0 h.3 h.4));
  only_so = text_never_overlong;
}

-- ---- pairs of texts

pub pair_first : (bytes : List ℕ) (reason : Reason) → text_at bytes ≡ Err reason → pair_at bytes ≡ Err reason
unfolding pair_at
pair_first bytes reason e =
    ap (λ (found : Result (List ℕ × ℕ) Reason). found >>= λ name. text_at (drop name.1 bytes) >>= λ value. Ok ((name.0, value.0), name.1 + value.1)) e

pub pair_second : (bytes name : List ℕ) (n : ℕ) (reason : Reason) → text_at bytes ≡ Ok (name, n) → text_at (drop n bytes) ≡ Err reason → pair_at bytes ≡ Err reason
unfolding pair_at
pair_second bytes name n reason is e =
    ap (λ (found : Result (List ℕ × ℕ) Reason). found >>= λ name. text_at (drop name.1 bytes) >>= λ value. Ok ((name.0, value.0), name.1 + value.1)) is
    ∙ ap (λ (found : Result (List ℕ × ℕ) Reason). found >>= λ value. Ok ((name, value.0), n + value.1)) e

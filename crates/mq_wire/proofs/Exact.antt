-- The reading of each kind of field is exact.
use Rattle.std.proofs.Common.{◌≡◌, ℕ, zero, suc, ◌+◌, ◌≤◌, Bool, true, false, cond, List, [], ◌∷◌, ◌++◌, length, take, drop, Result, Ok, Err, refl, sym, ap, subst, ◌∙◌, inl, inr, append_assoc, arith}
use Rattle.std.specs.Int.{w16, w32, from_be_bytes}
use Rattle.std.specs.Str.{IsUtf8, is_utf8}
use Rattle.std.proofs.lemmas.Bool.{cases_lt, lt-ltb, le-ltb}
use Rattle.std.proofs.lemmas.List.{take_at, drop_at, drop-drop, length-append, length-take, take-append-drop}
use Rattle.std.proofs.lemmas.Nat.{be_bytes_2, be_bytes_4, from_be_bytes-to_be_bytes_2, from_be_bytes-to_be_bytes_4}
use Rattle.std.proofs.lemmas.Str.{IsUtf8-from_is_utf8}
use Rattle.mq_wire.specs.declared.fault.Reason.{Reason}
use Rattle.mq_wire.specs.declared.fault.Reason.TheVariants.{NotUtf8, Nul}
use Rattle.mq_wire.specs.Fields.{◌>>=◌, byte_at, two_bytes_at, four_bytes_at, counted_bytes, binary_at, text_of, text_at, pair_at}
use Rattle.mq_wire.specs.Spellings.{AreBytes, IsByte, byte_spelling, IsTwoBytes, two_bytes_spelling, IsFourBytes, four_bytes_spelling, IsBinary, binary_spelling, has_nul, IsText, text_spelling, IsPair, pair_spelling, BeginsWith, IsExact}
use Rattle.mq_wire.proofs.Bytes.{AreBytes-drop}
use Rattle.mq_wire.proofs.Texts.{is_text}

-- the value of a step that succeeded
pub bind_ok : {A B : Type 0} (r : Result A Reason) (f : A → Result B Reason) (y : B) → (r >>= f) ≡ Ok y → (x : A) × (r ≡ Ok x) × (f x ≡ Ok y)
bind_ok (Ok x) f y e = (x, refl, e)
bind_ok (Err d) f y e = absurd cc

-- a reading that succeeded with this
abbrev pub done : {A : Type 0} → A → Result A Reason
done x = Ok x

pub done_is : {A : Type 0} (x y : A) → done x ≡ done y → x ≡ y
done_is x y e = cc

-- ---- integers of one, two and four bytes

byte_only : (bytes : List ℕ) (x : ℕ × ℕ) → AreBytes bytes → byte_at bytes ≡ Ok x → BeginsWith IsByte byte_spelling bytes x.0 x.1
byte_only [] x fits e = absurd cc
byte_only (a ∷ bytes) x fits e =
    subst (λ (y : ℕ × ℕ). BeginsWith IsByte byte_spelling (a ∷ bytes) y.0 y.1) (done_is (a, 1) x e) (record { value = fits 0; taken = refl; spelled = refl })

pub byte_exact : IsExact byte_at IsByte byte_spelling
byte_exact = record { only = λ bytes x n fits e. byte_only bytes (x, n) fits e; all = λ x rest value. refl }

pub two_bytes_from : (a b : ℕ) (bytes : List ℕ) → AreBytes (a ∷ b ∷ bytes) → two_bytes_spelling (from_be_bytes w16 (a ∷ b ∷ [])) ≡ a ∷ b ∷ []
two_bytes_from a b bytes fits = be_bytes_2 (a ∷ b ∷ []) _ refl ends refl
  where
    ends : AreBytes (a ∷ b ∷ [])
    ends zero = fits 0
    ends (suc zero) = fits 1
    ends (suc (suc i)) = omega arith

two_bytes_only : (bytes : List ℕ) (x : ℕ × ℕ) → AreBytes bytes → two_bytes_at bytes ≡ Ok x → BeginsWith IsTwoBytes two_bytes_spelling bytes x.0 x.1
two_bytes_only [] x fits e = absurd cc
two_bytes_only (a ∷ []) x fits e = absurd cc
two_bytes_only (a ∷ b ∷ bytes) x fits e =
    let n = from_be_bytes w16 (a ∷ b ∷ []) in
    subst (λ (y : ℕ × ℕ). BeginsWith IsTwoBytes two_bytes_spelling (a ∷ b ∷ bytes) y.0 y.1) (done_is (n, 2) x e)
    (record { value = omega (arith, fits 0, fits 1); taken = refl; spelled = ap (λ (front : List ℕ). front ++ bytes) (sym (two_bytes_from a b bytes fits)) })

two_bytes_all : (n : ℕ) (rest : List ℕ) → IsTwoBytes n → two_bytes_at (two_bytes_spelling n ++ rest) ≡ Ok (n, 2)
two_bytes_all n rest value = ap (λ (m : ℕ). Ok (m, 2)) (from_be_bytes-to_be_bytes_2 n (omega arith))

pub two_bytes_exact : IsExact two_bytes_at IsTwoBytes two_bytes_spelling
two_bytes_exact = record { only = λ bytes x n fits e. two_bytes_only bytes (x, n) fits e; all = two_bytes_all }

pub four_bytes_from : (a b c d : ℕ) (bytes : List ℕ) → AreBytes (a ∷ b ∷ c ∷ d ∷ bytes) → four_bytes_spelling (from_be_bytes w32 (a ∷ b ∷ c ∷ d ∷ [])) ≡ a ∷ b ∷ c ∷ d ∷ []
four_bytes_from a b c d bytes fits = be_bytes_4 (a ∷ b ∷ c ∷ d ∷ []) _ refl ends refl
  where
    ends : AreBytes (a ∷ b ∷ c ∷ d ∷ [])
    ends zero = fits 0
    ends (suc zero) = fits 1
    ends (suc (suc zero)) = fits 2
    ends (suc (suc (suc zero))) = fits 3
    ends (suc (suc (suc (suc i)))) = omega arith

four_bytes_only : (bytes : List ℕ) (x : ℕ × ℕ) → AreBytes bytes → four_bytes_at bytes ≡ Ok x → BeginsWith IsFourBytes four_bytes_spelling bytes x.0 x.1
four_bytes_only [] x fits e = absurd cc
four_bytes_only (a ∷ []) x fits e = absurd cc
four_bytes_only (a ∷ b ∷ []) x fits e = absurd cc
four_bytes_only (a ∷ b ∷ c ∷ []) x fits e = absurd cc
four_bytes_only (a ∷ b ∷ c ∷ d ∷ bytes) x fits e =
    let n = from_be_bytes w32 (a ∷ b ∷ c ∷ d ∷ []) in
    subst (λ (y : ℕ × ℕ). BeginsWith IsFourBytes four_bytes_spelling (a ∷ b ∷ c ∷ d ∷ bytes) y.0 y.1) (done_is (n, 4) x e)
    (record { value = omega (arith, fits 0, fits 1, fits 2, fits 3); taken = refl; spelled = ap (λ (front : List ℕ). front ++ bytes) (sym (four_bytes_from a b c d bytes fits)) })

four_bytes_all : (n : ℕ) (rest : List ℕ) → IsFourBytes n → four_bytes_at (four_bytes_spelling n ++ rest) ≡ Ok (n, 4)
four_bytes_all n rest value = ap (λ (m : ℕ). Ok (m, 4)) (from_be_bytes-to_be_bytes_4 n (omega arith))

pub four_bytes_exact : IsExact four_bytes_at IsFourBytes four_bytes_spelling
four_bytes_exact = record { only = λ bytes x n fits e. four_bytes_only bytes (x, n) fits e; all = four_bytes_all }

-- ---- binary data

-- what stands after its length
counted_stands : (a b n : ℕ) (bytes : List ℕ) → AreBytes (a ∷ b ∷ bytes) → n ≡ from_be_bytes w16 (a ∷ b ∷ []) → n ≤ length bytes → BeginsWith IsBinary binary_spelling (a ∷ b ∷ bytes) (take n bytes) (2 + n)
counted_stands a b n bytes fits is enough =
    let size : length (take n bytes) ≡ n = omega (arith, length-take n bytes) in
    let front : two_bytes_spelling n ≡ a ∷ b ∷ [] = rw is (two_bytes_from a b bytes fits) in
    let two_more : 2 + n ≡ suc (suc n) = omega arith in
    record {
      value = omega (arith, fits 0, fits 1);
      taken = omega arith;
      spelled = rw (two_more, size) (ap (λ (rest : List ℕ). a ∷ b ∷ rest) (sym (take-append-drop n bytes)) ∙ ap (λ (head : List ℕ). (head ++ take n bytes) ++ drop n bytes) (sym front));
    }

binary_only : (bytes : List ℕ) (x : List ℕ × ℕ) → AreBytes bytes → binary_at bytes ≡ Ok x → BeginsWith IsBinary binary_spelling bytes x.0 x.1
unfolding binary_at
binary_only [] x fits e = absurd cc
binary_only (a ∷ []) x fits e = absurd cc
binary_only (a ∷ b ∷ bytes) x fits e =
    let n = from_be_bytes w16 (a ∷ b ∷ []) in
    elim (cases_lt (length bytes) n) [
      | inl lt ↦ absurd (let never = rw (lt-ltb (length bytes) n lt) at e in cc)
      | inr enough ↦
          subst (λ (y : List ℕ × ℕ). BeginsWith IsBinary binary_spelling (a ∷ b ∷ bytes) y.0 y.1) (done_is (take n bytes, 2 + n) x (rw (le-ltb (length bytes) n enough) at e)) (counted_stands a b n bytes fits refl enough)
    ]

counted_all : (text rest : List ℕ) → counted_bytes (length text) (text ++ rest) ≡ Ok (text, 2 + length text)
counted_all text rest =
    let enough : length text ≤ length (text ++ rest) = omega (arith, length-append text rest) in
    rw (le-ltb (length (text ++ rest)) (length text) enough, take_at text rest (length text) refl) refl

binary_all : (x rest : List ℕ) → IsBinary x → binary_at (binary_spelling x ++ rest) ≡ Ok (x, length (binary_spelling x))
unfolding binary_at
binary_all x rest value =
    let two_more : 2 + length x ≡ suc (suc (length x)) = omega arith in
    ap (λ (size : Result (ℕ × ℕ) Reason). size >>= λ n. counted_bytes n.0 (x ++ rest)) (two_bytes_all (length x) (x ++ rest) value) ∙ counted_all x rest ∙ ap (λ (n : ℕ). Ok (x, n)) two_more

pub binary_exact : IsExact binary_at IsBinary binary_spelling
binary_exact = record { only = λ bytes x n fits e. binary_only bytes (x, n) fits e; all = binary_all }

-- ---- texts

if_ok : {A : Type 0} (b : Bool) (reason : Reason) (r : Result A Reason) (y : A) → cond b r (Err reason) ≡ Ok y → (b ≡ true) × (r ≡ Ok y)
if_ok true reason r y e = (refl, e)
if_ok false reason r y e = absurd cc

unless_ok : {A : Type 0} (b : Bool) (reason : Reason) (x y : A) → cond b (Err reason) (Ok x) ≡ Ok y → (b ≡ false) × (x ≡ y)
unless_ok true reason x y e = absurd cc
unless_ok false reason x y e = (refl, cc)

text_of_ok : (bytes text : List ℕ) → text_of bytes ≡ Ok text → IsUtf8 bytes × (has_nul bytes ≡ false) × (bytes ≡ text)
unfolding text_of
text_of_ok bytes text e =
    let utf8 = if_ok (is_utf8 bytes) NotUtf8 (cond (has_nul bytes) (Err Nul) (Ok bytes)) text e in
    let no_nul = unless_ok (has_nul bytes) Nul bytes text utf8.1 in
    (IsUtf8-from_is_utf8 bytes utf8.0, no_nul.0, no_nul.1)

text_only : (bytes : List ℕ) (x : List ℕ × ℕ) → AreBytes bytes → text_at bytes ≡ Ok x → BeginsWith IsText text_spelling bytes x.0 x.1
unfolding text_at
text_only bytes x fits e =
    let found = bind_ok (binary_at bytes) (λ found. text_of found.0 >>= λ text. Ok (text, found.1)) x e in
    let text = bind_ok (text_of found.0.0) (λ text. Ok (text, found.0.1)) x found.2 in
    let is = text_of_ok found.0.0 text.0 text.1 in
    let made : List ℕ × ℕ = (text.0, found.0.1) in
    let stands = binary_only bytes found.0 fits found.1 in
    let here : BeginsWith IsText text_spelling bytes found.0.0 found.0.1 = record { value = record { bound = stands.value; utf8 = is.0; no_nul = is.1 }; taken = stands.taken; spelled = stands.spelled } in
    let there : BeginsWith IsText text_spelling bytes text.0 found.0.1 = subst (λ (y : List ℕ). BeginsWith IsText text_spelling bytes y found.0.1) is.2 here in
    subst (λ (y : List ℕ × ℕ). BeginsWith IsText text_spelling bytes y.0 y.1) (done_is made x text.2) there

text_all : (x rest : List ℕ) → IsText x → text_at (text_spelling x ++ rest) ≡ Ok (x, length (text_spelling x))
unfolding text_at
text_all x rest value =
    ap (λ (found : Result (List ℕ × ℕ) Reason). found >>= λ n. text_of n.0 >>= λ text. Ok (text, n.1)) (binary_all x rest value.bound)
    ∙ ap (λ (found : Result (List ℕ) Reason). found >>= λ text. Ok (text, length (text_spelling x))) (is_text x value.utf8 value.no_nul)

pub text_exact : IsExact text_at IsText text_spelling
text_exact = record { only = λ bytes x n fits e. text_only bytes (x, n) fits e; all = text_all }

-- ---- pairs of texts

pair_stands : (bytes name value : List ℕ) (n m : ℕ) → BeginsWith IsText text_spelling bytes name n → BeginsWith IsText text_spelling (drop n bytes) value m → BeginsWith IsPair pair_spelling bytes (name, value) (n + m)
pair_stands bytes name value n m first second =
    record {
      value = (first.value, second.value);
      taken = omega (arith, first.taken, second.taken, length-append (text_spelling name) (text_spelling value));
      spelled = first.spelled ∙ ap (λ (rest : List ℕ). text_spelling name ++ rest) (second.spelled ∙ ap (λ (rest : List ℕ). text_spelling value ++ rest) (drop-drop m n bytes)) ∙ sym (append_assoc (text_spelling name) (text_spelling value) (drop (n + m) bytes));
    }

pair_only : (bytes : List ℕ) (x : (List ℕ × List ℕ) × ℕ) → AreBytes bytes → pair_at bytes ≡ Ok x → BeginsWith IsPair pair_spelling bytes x.0 x.1
unfolding pair_at
pair_only bytes x fits e =
    let name = bind_ok (text_at bytes) (λ name. text_at (drop name.1 bytes) >>= λ value. Ok ((name.0, value.0), name.1 + value.1)) x e in
    let value = bind_ok (text_at (drop name.0.1 bytes)) (λ value. Ok ((name.0.0, value.0), name.0.1 + value.1)) x name.2 in
    let made : (List ℕ × List ℕ) × ℕ = ((name.0.0, value.0.0), name.0.1 + value.0.1) in
    let first = text_only bytes name.0 fits name.1 in
    let second = text_only (drop name.0.1 bytes) value.0 (AreBytes-drop name.0.1 bytes fits) value.1 in
    subst (λ (y : (List ℕ × List ℕ) × ℕ). BeginsWith IsPair pair_spelling bytes y.0 y.1) (done_is made x value.2) (pair_stands bytes name.0.0 value.0.0 name.0.1 value.0.1 first second)

pair_all : (x : List ℕ × List ℕ) (rest : List ℕ) → IsPair x → pair_at (pair_spelling x ++ rest) ≡ Ok (x, length (pair_spelling x))
unfolding pair_at
pair_all x rest is =
    let first = text_spelling x.0 in
    let second = text_spelling x.1 in
    let parts : pair_spelling x ++ rest ≡ first ++ (second ++ rest) = append_assoc first second rest in
    let following : drop (length first) (first ++ (second ++ rest)) ≡ second ++ rest = drop_at first (second ++ rest) (length first) refl in
    ap pair_at parts
    ∙ ap (λ (found : Result (List ℕ × ℕ) Reason). found >>= λ name. text_at (drop name.1 (first ++ (second ++ rest))) >>= λ value. Ok ((name.0, value.0), name.1 + value.1)) (text_all x.0 (second ++ rest) is.0)
    ∙ ap (λ (left : List ℕ). text_at left >>= λ value. Ok ((x.0, value.0), length first + value.1)) following
    ∙ ap (λ (found : Result (List ℕ × ℕ) Reason). found >>= λ value. Ok ((x.0, value.0), length first + value.1)) (text_all x.1 rest is.1)
    ∙ ap (λ (n : ℕ). Ok (x, n)) (sym (length-append first second))

pub pair_exact : IsExact pair_at IsPair pair_spelling
pair_exact = record { only = λ bytes x n fits e. pair_only bytes (x, n) fits e; all = pair_all }

-- ---- what every kind has

-- a value that was read doesn't depend on what follows it
pub exact_settled : {X : Type 0} {read : List ℕ → Result (X × ℕ) Reason} {IsValue : X → Type 0} {spelling : X → List ℕ} → IsExact read IsValue spelling → (bytes more : List ℕ) (x : X) (n : ℕ) → AreBytes bytes → read bytes ≡ Ok (x, n) → read (bytes ++ more) ≡ Ok (x, n)
exact_settled {X} {read} {IsValue} {spelling} exact bytes more x n fits e =
    let stands = exact.only bytes x n fits e in
    let parts : bytes ++ more ≡ spelling x ++ (drop n bytes ++ more) = ap (λ (whole : List ℕ). whole ++ more) stands.spelled ∙ append_assoc (spelling x) (drop n bytes) more in
    ap read parts ∙ exact.all x (drop n bytes ++ more) stands.value ∙ ap (λ (k : ℕ). Ok (x, k)) (sym stands.taken)

-- Parts of a list of bytes are lists of bytes.
use Rattle.std.proofs.Common.{◌≡◌, ℕ, zero, suc, ◌+◌, ◌<◌, List, [], ◌∷◌, ◌++◌, length, take, drop, refl, ap, subst, ◌∙◌, inl, inr, arith}
use Rattle.std.proofs.lemmas.Bool.{cases_lt}
use Rattle.std.proofs.lemmas.List.{drop_at, get_or-drop, get_or-take, get_or_past, length-take}
use Rattle.mq_wire.specs.Spellings.{AreBytes}

pub AreBytes-nil : AreBytes []
AreBytes-nil i = omega arith

pub AreBytes-cons : (a : ℕ) (bytes : List ℕ) → a < 256 → AreBytes bytes → AreBytes (a ∷ bytes)
AreBytes-cons a bytes fits all zero = fits
AreBytes-cons a bytes fits all (suc i) = all i

pub AreBytes-drop : (n : ℕ) (bytes : List ℕ) → AreBytes bytes → AreBytes (drop n bytes)
AreBytes-drop n bytes fits i = rw get_or-drop (fits (n + i))

pub AreBytes-take : (n : ℕ) (bytes : List ℕ) → AreBytes bytes → AreBytes (take n bytes)
AreBytes-take n bytes fits i =
    elim (cases_lt i n) [
      | inl lt ↦ rw (get_or-take n bytes i 0 lt) (fits i)
      | inr le ↦ rw (get_or_past (take n bytes) i 0 (omega (arith, length-take n bytes, le))) (omega arith)
    ]

-- what stands after others
pub AreBytes-after : (front bytes whole : List ℕ) → AreBytes whole → whole ≡ front ++ bytes → AreBytes bytes
AreBytes-after front bytes whole fits is =
    subst (λ (rest : List ℕ). AreBytes rest) (ap (drop (length front)) is ∙ drop_at front bytes (length front) refl) (AreBytes-drop (length front) whole fits)

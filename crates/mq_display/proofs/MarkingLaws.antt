-- The first place of a text that is wrong.
use Rattle.std.proofs.Common.{◌≡◌, ⊎_elim, ℕ, zero, suc, ◌<◌, ◌≤◌, Bool, true, false, List, Option, Some, None, if◌then◌else◌, refl, sym, ap, subst, ◌∙◌, arith}
use Rattle.std.specs.Option.{option_or}
use Rattle.std.specs.Str.{IsUtf8, is_utf8}
use Rattle.core.specs.Str.Lossy.{utf8_valid_len}
use Rattle.std.proofs.lemmas.Bool.{cases_lt}
use Rattle.std.proofs.lemmas.Str.{IsUtf8-from_is_utf8, is_utf8-from_IsUtf8}
use Rattle.mq_display.specs.Marking.{first_place, not_utf8_at}

-- a text in UTF-8 has none, and another one that after its longest beginning in UTF-8
pub no_place_in_utf8 : (text : List ℕ) → IsUtf8 text → None ≡ not_utf8_at text
no_place_in_utf8 text utf8 = rw (is_utf8-from_IsUtf8 text utf8) refl

pub place_after_utf8 : (text : List ℕ) (place : ℕ) → (IsUtf8 text → ⊥) → place ≡ utf8_valid_len text → Some place ≡ not_utf8_at text
place_after_utf8 text place broken is =
    elim (is_utf8 text) as (λ b. is_utf8 text ≡ b → Some place ≡ (if b then None else Some (utf8_valid_len text))) [
      | true ↦ λ e. absurd (broken (IsUtf8-from_is_utf8 text e))
      | false ↦ λ e. ap Some is
    ] refl

-- a place that passes a test, where none below it does, is the first below any greater count
pub first_is : (test : ℕ → Bool) (place count : ℕ) → first_place test place ≡ None → test place ≡ true → place < count → Some place ≡ first_place test count
first_is test place zero none passes below = absurd (omega (arith, below))
first_is test place (suc count) none passes below = ⊎_elim
    (λ (before : place < count). ap (λ (found : Option ℕ). option_or found (if test count then Some count else None)) (first_is test place count none passes before))
    (λ (rest : count ≤ place).
    let same : place ≡ count = omega (arith, below, rest) in
    subst (λ n. Some place ≡ first_place test (suc n)) same
    (sym (ap (λ (found : Option ℕ). option_or found (if test place then Some place else None)) none ∙ ap (λ b. if b then Some place else None) passes)))
    (cases_lt place count)

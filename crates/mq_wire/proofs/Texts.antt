-- What the bytes of a text field come to, by the tests that decide it.
use Rattle.std.proofs.Common.{◌≡◌, ℕ, true, false, List, eqb, Ok, Err, refl}
use Rattle.std.specs.List.{list_any}
use Rattle.std.specs.Str.{IsUtf8, is_utf8}
use Rattle.std.proofs.lemmas.Str.{IsUtf8-from_is_utf8, is_utf8-from_IsUtf8}
use Rattle.mq_wire.specs.declared.fault.Reason.TheVariants.{NotUtf8, Nul}
use Rattle.mq_wire.specs.Fields.{text_of}

-- bytes that aren't UTF-8
pub not_utf8 : (bytes : List ℕ) → (IsUtf8 bytes → ⊥) → text_of bytes ≡ Err NotUtf8
unfolding text_of
not_utf8 bytes h =
    elim (is_utf8 bytes) as (λ b. is_utf8 bytes ≡ b → text_of bytes ≡ Err NotUtf8) [
      | true ↦ λ e. absurd (h (IsUtf8-from_is_utf8 bytes e))
      | false ↦ λ e. rw e refl
    ] refl

-- UTF-8 in which U+0000 is
pub with_nul : (bytes : List ℕ) → IsUtf8 bytes → list_any (λ b. eqb b 0) bytes ≡ true → text_of bytes ≡ Err Nul
unfolding text_of
with_nul bytes utf8 e = rw (is_utf8-from_IsUtf8 bytes utf8, e) refl

-- UTF-8 without it
pub is_text : (bytes : List ℕ) → IsUtf8 bytes → list_any (λ b. eqb b 0) bytes ≡ false → text_of bytes ≡ Ok bytes
unfolding text_of
is_text bytes utf8 e = rw (is_utf8-from_IsUtf8 bytes utf8, e) refl

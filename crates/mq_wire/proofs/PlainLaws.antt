-- Plain bytes: they are a text, and two runs that cover all bytes settle them.
use Rattle.std.proofs.Common.{◌≡◌, ◌≤◌, ◌<◌, ◌+◌, ◌-◌, ◌*◌, ℕ, Bool, true, false, ◌&&◌, List, [], ◌∷◌, ◌++◌, length, take, drop, get_or, eqb, Option, None, Some, Result, Ok, Err, inl, inr, refl, ap, sym, subst, ◌∙◌, arith}
use Rattle.std.specs.Prelude.{IfSome, MatchOption}
use Rattle.std.specs.List.{list_any}
use Rattle.std.specs.Str.{IsUtf8, IsAscii}
use Rattle.std.proofs.lemmas.Str.{IsUtf8-from_ascii}
use Rattle.std.proofs.lemmas.Str.Ascii.{IsAscii-nil, IsAscii-cons}
use Rattle.std.proofs.lemmas.Bool.{cases_Bool}
use Rattle.std.proofs.lemmas.Bool.Decides.{nat_tests}
use Rattle.std.proofs.lemmas.List.{take-append-drop, drop-append-le, length-take-le}
use Rattle.std.proofs.lemmas.List.Folds.{list_all-append, list_all_more}
use Rattle.mq_wire.specs.Fields.{binary_at, text_at}
use Rattle.mq_wire.specs.declared.fault.Reason.{Reason}
use Rattle.mq_wire.specs.Left.{Left, past, placed}
use Rattle.mq_wire.specs.Plain.{is_plain, is_plain_byte, if_plain, plain_text_at}
use Rattle.mq_wire.proofs.Texts.{is_text}

pub both : (a b : Bool) → (a && b) ≡ true → (a ≡ true) × (b ≡ true)
both true b h = (refl, h)
both false b h = absurd cc

plain_byte : (b : ℕ) → is_plain_byte b ≡ true → (b < 128) × (eqb b 0 ≡ false)
plain_byte b h = (grind (arith, nat_tests), grind (arith, nat_tests))

-- plain bytes are ASCII
plain_ascii : (bytes : List ℕ) → is_plain bytes ≡ true → IsAscii bytes
plain_ascii [] h = IsAscii-nil
plain_ascii (b ∷ bytes) h =
    let parts : (is_plain_byte b ≡ true) × (is_plain bytes ≡ true) = both (is_plain_byte b) (is_plain bytes) h in
    IsAscii-cons b bytes (plain_byte b parts.0).0 (plain_ascii bytes parts.1)

pub plain_utf8 : (bytes : List ℕ) → is_plain bytes ≡ true → IsUtf8 bytes
plain_utf8 bytes h = IsUtf8-from_ascii bytes (plain_ascii bytes h)

-- U+0000 isn't among them
plain_no_nul : (bytes : List ℕ) → is_plain bytes ≡ true → list_any (λ b. eqb b 0) bytes ≡ false
plain_no_nul [] h = refl
plain_no_nul (b ∷ bytes) h =
    let parts : (is_plain_byte b ≡ true) × (is_plain bytes ≡ true) = both (is_plain_byte b) (is_plain bytes) h in
    rw ((plain_byte b parts.0).1, plain_no_nul bytes parts.1) refl

-- one byte more
pub plain_more : (bytes : List ℕ) (i : ℕ) → i < length bytes → is_plain (take (i + 1) bytes) ≡ (is_plain (take i bytes) && is_plain_byte (get_or bytes i 0))
plain_more bytes i h = list_all_more is_plain_byte bytes i 0 h

split : (n : ℕ) (bytes : List ℕ) → is_plain bytes ≡ (is_plain (take n bytes) && is_plain (drop n bytes))
split n bytes = ap (λ (l : List ℕ). is_plain l) (sym (take-append-drop n bytes)) ∙ list_all-append is_plain_byte (take n bytes) (drop n bytes)

twice : (a b c : Bool) → ((a && b) && (b && c)) ≡ ((a && b) && c)
twice true true c = refl
twice true false c = refl
twice false b c = refl

-- the first n and the last n cover all
pub ends_cover : (bytes : List ℕ) (n : ℕ) → n ≤ length bytes → length bytes ≤ 2 * n → (is_plain (take n bytes) && is_plain (drop (length bytes - n) bytes)) ≡ is_plain bytes
ends_cover bytes n low high =
    let m = length bytes - n in
    let front : is_plain (take n bytes) ≡ (is_plain (take m (take n bytes)) && is_plain (drop m (take n bytes))) = split m (take n bytes) in
    let last : drop m bytes ≡ drop m (take n bytes) ++ drop n bytes =
    ap (λ (l : List ℕ). drop m l) (sym (take-append-drop n bytes)) ∙ drop-append-le m (take n bytes) (drop n bytes) (omega (arith, length-take-le n bytes low)) in
    let back : is_plain (drop m bytes) ≡ (is_plain (drop m (take n bytes)) && is_plain (drop n bytes)) = ap (λ (l : List ℕ). is_plain l) last ∙ list_all-append is_plain_byte (drop m (take n bytes)) (drop n bytes) in
    rw (split n bytes, back, front) (twice (is_plain (take m (take n bytes))) (is_plain (drop m (take n bytes))) (is_plain (drop n bytes)))

-- a plain text is read as any text is
plain_read : (bytes text : List ℕ) (n : ℕ) → binary_at bytes ≡ Ok (text, n) → is_plain text ≡ true → text_at bytes ≡ Ok (text, n)
unfolding text_at
plain_read bytes text n e h = rw (e, is_text text (plain_utf8 text h) (plain_no_nul text h)) refl

if_plain_some : (r : Result (List ℕ × ℕ) Reason) (x : List ℕ × ℕ) → if_plain r ≡ Some x → (r ≡ Ok x) × (is_plain x.0 ≡ true)
if_plain_some (Ok y) x e =
    elim (cases_Bool (is_plain y.0)) [
      | inl plain ↦
          let some : Some y ≡ Some x = rw plain at e in
          let same : y ≡ x = cc in
          (ap (λ (z : List ℕ × ℕ). Ok z) same, subst (λ (z : List ℕ × ℕ). is_plain z.0 ≡ true) same plain)
      | inr other ↦ absurd (let never = rw other at e in cc)
    ]
if_plain_some (Err reason) x e = absurd cc

pub plain_placed : (left : Left) (text : List ℕ) (new : Left) → plain_text_at left.rest ≡ Some (text, 2 + length text) → new ≡ past left (2 + length text) → placed left (text_at left.rest) ≡ Ok (text, new)
plain_placed left text new found moved =
    let known : (binary_at left.rest ≡ Ok (text, 2 + length text)) × (is_plain text ≡ true) = if_plain_some (binary_at left.rest) (text, 2 + length text) found in
    rw (plain_read left.rest text (2 + length text) known.0 known.1, moved) refl

-- the same of what a call answers
pub plain_taken : {T : Type 0} (view : T → List ℕ) (result : Option T) (old new : Left)
    → MatchOption result ((plain_text_at old.rest ≡ None) × (new ≡ old)) (λ x. (plain_text_at old.rest ≡ Some (view x, 2 + length (view x))) × (new ≡ past old (2 + length (view x))))
    → IfSome result (λ x. placed old (text_at old.rest) ≡ Ok (view x, new))
plain_taken view None old new known = tt
plain_taken view (Some x) old new known = plain_placed old (view x) new known.0 known.1

-- What the tests of a packet's fields say of their spellings, and the other way round.
use Rattle.std.proofs.Common.{◌≡◌, ℕ, ◌<◌, ◌≤◌, Bool, true, false, ◌||◌, not, List, [], ◌∷◌, ◌++◌, length, Option, Some, None, refl, sym, ◌∙◌, ap, subst, arith}
use Rattle.std.specs.Prelude.{nat_lt, nat_le, ◌==◌, if◌then◌else◌, is_some, IfSome}
use Rattle.std.specs.List.{list_all}
use Rattle.std.specs.Str.{IsUtf8}
use Rattle.std.proofs.lemmas.Bool.{cond_both, eqb-true, eq-eqb, leb-true, le-leb, ltb-true, and_from, and_parts, not-true, not_from_false}
use Rattle.std.proofs.lemmas.List.{append-nil}
use Rattle.mq_wire.specs.Spellings.{has_nul, IsText, IsBinary, varint_spelling}
use Rattle.mq_props.specs.declared.table.Place.{Place}
use Rattle.mq_props.specs.declared.table.Place.TheVariants as places
use Rattle.mq_props.specs.Table.{place_number, same_place}
use Rattle.mq_props.specs.Listed.{Listed}
use Rattle.mq_packet.specs.declared.rule.PacketRule.{PacketRule}
use Rattle.mq_packet.specs.Entries.{Entry, listed}
use Rattle.mq_packet.specs.Formats.{Kind, properties, ValueOf, Format, field_if, unless_broken, is_code}
use Rattle.mq_packet.specs.Spelled.{IsValueOf, spelling, Spells}
use Rattle.mq_packet.specs.Canonical.{spelling_if}
use Rattle.mq_packet.specs.Valid.{is_text, is_binary, if_there, IsListed}

-- ---- places

place_at : ℕ → Place
place_at n =
    if n == 0 then places.Connect else
    if n == 1 then places.Will else
    if n == 2 then places.Connack else
    if n == 3 then places.Publish else
    if n == 4 then places.Puback else
    if n == 5 then places.Pubrec else
    if n == 6 then places.Pubrel else
    if n == 7 then places.Pubcomp else
    if n == 8 then places.Subscribe else
    if n == 9 then places.Suback else
    if n == 10 then places.Unsubscribe else
    if n == 11 then places.Unsuback else
    if n == 12 then places.Disconnect else
    places.Auth

place_found : (p : Place) → place_at (place_number p) ≡ p
unfolding place_at
place_found places.Connect = refl
place_found places.Will = refl
place_found places.Connack = refl
place_found places.Publish = refl
place_found places.Puback = refl
place_found places.Pubrec = refl
place_found places.Pubrel = refl
place_found places.Pubcomp = refl
place_found places.Subscribe = refl
place_found places.Suback = refl
place_found places.Unsubscribe = refl
place_found places.Unsuback = refl
place_found places.Disconnect = refl
place_found places.Auth = refl

pub place_is : (p q : Place) → same_place p q ≡ true → p ≡ q
place_is p q e = sym (place_found p) ∙ ap place_at (eqb-true (place_number p) (place_number q) e) ∙ place_found q

pub same_as_itself : (p : Place) → same_place p p ≡ true
same_as_itself p = eq-eqb (place_number p) (place_number p) refl

-- A list of the place is listed there, and is a value of the place's field.
pub listed_is : (place : Place) (list : Listed) → same_place list.place place ≡ true → listed place list.items ≡ list
listed_is place list e = ap (λ (p : Place). listed p list.items) (sym (place_is list.place place e))

pub list_value : (place : Place) (list : Listed) → IsListed list → same_place list.place place ≡ true → IsValueOf (properties place) list.items
list_value place list ok e = subst (λ (p : Place). IsValueOf (properties p) list.items) (place_is list.place place e) (ok.allowed, ok.bound)

-- ---- lengths

pub varint_some : (n : ℕ) → 1 ≤ length (varint_spelling n)
unfolding varint_spelling
varint_some n =
    cond_both (nat_lt n 128) _ _ (λ (l : List ℕ). 1 ≤ length l) (λ _. omega arith) (λ _.
    cond_both (nat_lt n 16384) _ _ (λ (l : List ℕ). 1 ≤ length l) (λ _. omega arith) (λ _.
    cond_both (nat_lt n 2097152) _ _ (λ (l : List ℕ). 1 ≤ length l) (λ _. omega arith) (λ _. omega arith)))

-- ---- texts, binary data and codes

pub text_value : (bytes : List ℕ) → IsUtf8 bytes → is_text bytes ≡ true → IsText bytes
text_value bytes utf8 e =
    (let parts : (nat_le (length bytes) 65535 ≡ true) × (not (has_nul bytes) ≡ true) = and_parts (nat_le (length bytes) 65535) (not (has_nul bytes)) e in
    record { bound = leb-true (length bytes) 65535 parts.0; utf8 = utf8; no_nul = not-true (has_nul bytes) parts.1 })

pub text_passes : (bytes : List ℕ) → IsText bytes → is_text bytes ≡ true
text_passes bytes h = and_from (nat_le (length bytes) 65535) (not (has_nul bytes)) (le-leb (length bytes) 65535 h.bound) (not_from_false (has_nul bytes) h.no_nul)

pub binary_value : (bytes : List ℕ) → is_binary bytes ≡ true → IsBinary bytes
binary_value bytes e = leb-true (length bytes) 65535 e

pub binary_passes : (bytes : List ℕ) → IsBinary bytes → is_binary bytes ≡ true
binary_passes bytes h = le-leb (length bytes) 65535 h

-- A table of bytes has no code that isn't one.
pub code_value : (table : List ℕ) (code : ℕ) → list_all (λ c. nat_lt c 256) table ≡ true → is_code table code ≡ true → code < 256
code_value [] code bytes e = absurd (cc)
code_value (c ∷ table) code bytes e =
    (let known : (nat_lt c 256 ≡ true) × (list_all (λ b. nat_lt b 256) table ≡ true) = and_parts (nat_lt c 256) (list_all (λ b. nat_lt b 256) table) bytes in
    elim (c == code) as (λ t. (c == code) ≡ t → (t || is_code table code) ≡ true → code < 256) [
      | true ↦ λ same _. (let is : c ≡ code = eqb-true c code same in let small : c < 256 = ltb-true c 256 known.0 in omega arith)
      | false ↦ λ other rest. code_value table code known.1 rest
    ] refl e)

-- ---- objections

pub not_objected : (good : Bool) (rule : PacketRule) → unless_broken good rule ≡ None → good ≡ true
not_objected true rule e = refl
not_objected false rule e = absurd (cc)

pub unobjected : (good : Bool) (rule : PacketRule) → good ≡ true → unless_broken good rule ≡ None
unobjected true rule e = refl
unobjected false rule e = absurd (cc)

-- ---- fields that may be missing

-- The field is there as the flag for it says.
pub field_if_spelled : (flag : Bool) (kind : Kind) (value : Option (ValueOf kind)) (next : Option (ValueOf kind) → Format) (left : List ℕ) (entry : Entry)
    → flag ≡ is_some value → IfSome value (IsValueOf kind) → Spells (next value) left entry → Spells (field_if flag kind next) (spelling_if (spelling kind) value ++ left) entry
field_if_spelled flag kind None next left entry e ok h = subst (λ (t : Bool). Spells (field_if t kind next) left entry) (sym e) h
field_if_spelled flag kind (Some x) next left entry e ok h =
    subst (λ (t : Bool). Spells (field_if t kind next) (spelling kind x ++ left) entry) (sym e)
    (x, left, record { is_value = ok; spelled = refl }, refl, h)

-- What the bytes of such a field say.
pub field_if_says : (flag : Bool) (kind : Kind) (next : Option (ValueOf kind) → Format) (bytes : List ℕ) (entry : Entry)
    → Spells (field_if flag kind next) bytes entry → (value : Option (ValueOf kind)) × (left : List ℕ) × IfSome value (IsValueOf kind) × Spells (next value) left entry
field_if_says false kind next bytes entry h = (None, bytes, tt, h)
field_if_says true kind next bytes entry h = (Some h.0, h.1, h.2.is_value, h.4)

-- ---- options

pub if_there_from : {X : Type 0} (P : X → Type 0) (test : X → Bool) (value : Option X) → ((x : X) → P x → test x ≡ true) → IfSome value P → if_there test value ≡ true
if_there_from P test None f h = refl
if_there_from P test (Some x) f h = f x h

pub if_there_gives : {X : Type 0} (P Q : X → Type 0) (test : X → Bool) (value : Option X) → ((x : X) → P x → test x ≡ true → Q x) → IfSome value P → if_there test value ≡ true → IfSome value Q
if_there_gives P Q test None f h e = tt
if_there_gives P Q test (Some x) f h e = f x h e

-- Nothing after the last field.
pub ends_there : (format : Format) (bytes : List ℕ) (entry : Entry) → Spells format (bytes ++ []) entry → Spells format bytes entry
ends_there format bytes entry h = subst (λ (b : List ℕ). Spells format b entry) (append-nil bytes) h

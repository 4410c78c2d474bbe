-- A Reason Code and properties, by whether there are properties.
use Rattle.std.proofs.Common.{◌≡◌, ℕ, ◌+◌, ◌≤◌, Bool, true, false, ◌&&◌, List, [], ◌∷◌, ◌++◌, length, refl, sym, ◌∙◌, ap, arith, length-append}
use Rattle.std.specs.Prelude.{◌==◌, if◌then◌else◌}
use Rattle.std.proofs.lemmas.Bool.{ne_eqb, and_parts}
use Rattle.std.specs.Bool.{MatchBool}
use Rattle.mq_wire.specs.Spellings.{varint_spelling}
use Rattle.mq_props.specs.Values.{Property, value_spelling, property_spelling, body as properties_spelling}
use Rattle.mq_packet.specs.Canonical.{list_spelling, reason_spelling, auth_body}
use Rattle.mq_packet.proofs.ValueLaws.{varint_some}

-- Properties have bytes.
some_bytes : (p : Property) (items : List Property) → (length (properties_spelling (p ∷ items)) == 0) ≡ false
some_bytes p items =
    (let whole : length (property_spelling p ++ properties_spelling items) ≡ length (property_spelling p) + length (properties_spelling items) = length-append (property_spelling p) (properties_spelling items) in
    let front : length (property_spelling p) ≡ length (varint_spelling p.id) + length (value_spelling p.value) = length-append (varint_spelling p.id) (value_spelling p.value) in
    let some : 1 ≤ length (varint_spelling p.id) = varint_some p.id in
    ne_eqb (length (properties_spelling (p ∷ items))) 0 (λ (z : length (properties_spelling (p ∷ items)) ≡ 0). omega arith))

pub reason_by : (code : ℕ) (items : List Property) → reason_spelling code items ≡ (if length (properties_spelling items) == 0 then (if code == 0 then [] else code ∷ []) else code ∷ list_spelling items)
reason_by code [] = refl
reason_by code (p ∷ items) = ap (λ (t : Bool). if t then (if code == 0 then [] else code ∷ []) else code ∷ list_spelling (p ∷ items)) (sym (some_bytes p items))

pub auth_by : (code : ℕ) (items : List Property) → auth_body code items ≡ (if length (properties_spelling items) == 0 then (if code == 0 then [] else code ∷ list_spelling items) else code ∷ list_spelling items)
unfolding auth_body
auth_by code [] = refl
auth_by code (p ∷ items) = ap (λ (t : Bool). if t then (if code == 0 then [] else code ∷ list_spelling (p ∷ items)) else code ∷ list_spelling (p ∷ items)) (sym (some_bytes p items))

-- An AUTH is empty exactly where that is so.
pub auth_bare : (code : ℕ) (items : List Property) → (code == 0) ≡ true → (length (properties_spelling items) == 0) ≡ true → auth_body code items ≡ []
auth_bare code items zero empty =
    auth_by code items
    ∙ (ap (λ (t : Bool). if t then (if code == 0 then [] else code ∷ list_spelling items) else code ∷ list_spelling items) empty
    ∙ ap (λ (t : Bool). if t then [] else code ∷ list_spelling items) zero)

pub auth_whole : (code : ℕ) (items : List Property) → ((code == 0) && (length (properties_spelling items) == 0)) ≡ false → auth_body code items ≡ code ∷ list_spelling items
auth_whole code items e = auth_by code items ∙ by_tests (code == 0) (length (properties_spelling items) == 0) e
  where
    by_tests : (zero empty : Bool) → (zero && empty) ≡ false → (if empty then (if zero then [] else code ∷ list_spelling items) else code ∷ list_spelling items) ≡ code ∷ list_spelling items
    by_tests true true e = absurd (cc)
    by_tests true false e = refl
    by_tests false true e = refl
    by_tests false false e = refl

pub auth_parts : (code : ℕ) (items : List Property) (bare : Bool) → bare ≡ ((code == 0) && (length (properties_spelling items) == 0)) → MatchBool bare (auth_body code items ≡ []) (auth_body code items ≡ code ∷ list_spelling items)
auth_parts code items true e = (let both : ((code == 0) ≡ true) × ((length (properties_spelling items) == 0) ≡ true) = and_parts (code == 0) (length (properties_spelling items) == 0) (sym e) in auth_bare code items both.0 both.1)
auth_parts code items false e = auth_whole code items (sym e)

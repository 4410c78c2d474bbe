-- A property list that breaks in a field is refused for it.
use Rattle.std.proofs.Common.{◌≡◌, ℕ, zero, suc, ◌+◌, ◌<◌, ◌≤◌, List, [], ◌∷◌, ◌++◌, length, take, Result, Ok, Err, refl, sym, ap, subst, ◌∙◌, inl, inr, append_assoc, length-append, arith}
use Rattle.std.proofs.lemmas.Bool.{lt-ltb, le-ltb}
use Rattle.std.proofs.lemmas.List.{append-nil, take_at}
use Rattle.std.proofs.lemmas.List.Concat.{flat_map-cons}
use Rattle.mq_wire.specs.declared.fault.Reason.{Reason}
use Rattle.mq_wire.specs.declared.fault.WireFault.{WireFault}
use Rattle.mq_wire.specs.Left.{Left, past, placed}
use Rattle.mq_wire.specs.Fields.{varint_at, ◌>>=◌}
use Rattle.mq_wire.specs.Spellings.{AreBytes, varint_spelling}
use Rattle.mq_wire.proofs.Exports.{AreBytes-take, AreBytes-after, varint_misspelled}
use Rattle.mq_props.specs.declared.fault.PropFault.{PropFault}
use Rattle.mq_props.specs.declared.table.Place.{Place}
use Rattle.mq_props.specs.Values.{Property, value_spelling, property_spelling, body}
use Rattle.mq_props.specs.Allowed.{AllowedAfter}
use Rattle.mq_props.specs.Breaks.{LongLength, BadProperty, BreaksList}
use Rattle.mq_props.specs.Reading.{from_wire, within_length, property_on, properties_within, properties_on, list_on}
use Rattle.mq_props.proofs.BadFieldLemmas.{named_on, breaks_property}
use Rattle.mq_props.proofs.Exact.{left_at, after, property_read, spelling_some, some_bytes}

abbrev done : {A : Type 0} → A → Result A PropFault
done x = Ok x

abbrev failed : {A : Type 0} → PropFault → Result A PropFault
failed fault = Err fault

-- the rest of the properties, where one was read
abbrev going_on : ℕ → Place → List Property → Result (Property × Left) PropFault → Result (List Property) PropFault
going_on fuel place before r = r >>= λ x. properties_within fuel place (before ++ x.0 ∷ []) x.1

-- the good properties are read, and the one after them is refused
refused_after : (fuel : ℕ) (place : Place) (before good : List Property) (at : ℕ) (others : List ℕ) (fault : PropFault) → length (body good ++ others) ≤ fuel → 0 < length others → AllowedAfter place before good
    → property_on place (before ++ good) (left_at (at + length (body good)) others) ≡ Err fault → properties_within fuel place before (left_at at (body good ++ others)) ≡ failed fault
refused_after zero place before good at others fault enough some allowed e = absurd (omega (arith, enough, some, length-append (body good) others))
refused_after (suc fuel) place before [] at others fault enough some allowed e =
    let here : at ≡ at + 0 = omega arith in
    let first : property_on place before (left_at at others) ≡ failed fault =
    ap (λ (ps : List Property). property_on place ps (left_at at others)) (sym (append-nil before)) ∙ ap (λ (n : ℕ). property_on place (before ++ []) (left_at n others)) here ∙ e in
    rw (some_bytes others some) (ap (going_on fuel place before) first)
refused_after (suc fuel) place before (p ∷ good) at others fault enough some allowed e =
    let more : List ℕ = body good ++ others in
    let whole : body (p ∷ good) ++ others ≡ property_spelling p ++ more = ap (λ (front : List ℕ). front ++ others) (flat_map-cons property_spelling p good) ∙ append_assoc (property_spelling p) (body good) others in
    let size : length (property_spelling p) ≡ length (varint_spelling p.id) + length (value_spelling p.value) = length-append (varint_spelling p.id) (value_spelling p.value) in
    let following : at + length (varint_spelling p.id) + length (value_spelling p.value) + length (body good) ≡ at + length (body (p ∷ good)) =
    omega (arith, size, ap length (flat_map-cons property_spelling p good), length-append (property_spelling p) (body good)) in
    let first : property_on place before (left_at at (body (p ∷ good) ++ others)) ≡ done (p, after at p more) = ap (λ (bytes : List ℕ). property_on place before (left_at at bytes)) whole ∙ property_read place before p at more allowed.0 in
    let less : length more ≤ fuel = omega (arith, enough, spelling_some place before p allowed.0, ap length whole, length-append (property_spelling p) more) in
    let next = refused_after fuel place (before ++ p ∷ []) good (at + length (varint_spelling p.id) + length (value_spelling p.value)) others fault less some allowed.1
    (ap (λ (ps : List Property). property_on place ps (left_at (at + length (varint_spelling p.id) + length (value_spelling p.value) + length (body good)) others)) (append_assoc before (p ∷ []) good)
    ∙ ap (λ (n : ℕ). property_on place (before ++ p ∷ good) (left_at n others)) following ∙ e) in
    rw (some_bytes (body (p ∷ good) ++ others) (omega (arith, some, length-append (body (p ∷ good)) others))) (ap (going_on fuel place before) first ∙ next)

refused_all : (place : Place) (good : List Property) (at : ℕ) (others : List ℕ) (fault : PropFault) → 0 < length others → AllowedAfter place [] good
    → property_on place good (left_at (at + length (body good)) others) ≡ Err fault → properties_on place [] (left_at at (body good ++ others)) ≡ failed fault
unfolding properties_on
refused_all place good at others fault some allowed e = refused_after (length (body good ++ others)) place [] good at others fault (omega arith) some allowed e

-- the list whose length was read
abbrev list_of_length : Place → Left → Result (ℕ × Left) WireFault → Result (List Property × Left) PropFault
list_of_length place left r = from_wire r >>= λ len. within_length left len.0 len.1 >>= λ inside. properties_on place [] inside >>= λ ps. Ok (ps, past len.1 len.0)

abbrev list_inside : Place → Left → Result Left PropFault → Result (List Property × Left) PropFault
list_inside place following r = r >>= λ inside. properties_on place [] inside >>= λ ps. Ok (ps, following)

abbrev list_from : Left → Result (List Property) PropFault → Result (List Property × Left) PropFault
list_from following r = r >>= λ ps. Ok (ps, following)

long_list : (place : Place) (left : Left) (fault : PropFault) → LongLength left fault → list_of_length place left (placed left (varint_at left.rest)) ≡ failed fault
long_list place left fault long =
    ap (list_of_length place left) (named_on left long.len long.inside long.numbered) ∙ rw (lt-ltb (length long.inside.rest) long.len long.passes) (ap failed (sym long.is))

-- the bytes that the length counts
counted_inside : (start inside : Left) (counts following : List ℕ) → inside.rest ≡ counts ++ following → within_length start (length counts) inside ≡ done (left_at inside.at counts)
counted_inside start inside counts following is =
    let enough : length counts ≤ length inside.rest = omega (arith, ap length is, length-append counts following) in
    rw (le-ltb (length inside.rest) (length counts) enough) (ap (λ (bytes : List ℕ). done (left_at inside.at bytes)) (ap (take (length counts)) is ∙ take_at counts following (length counts) refl))

-- the others are bytes
others_fit : (place : Place) (left : Left) (fault : PropFault) (bad : BadProperty place left fault) → AreBytes left.rest → AreBytes bad.others
others_fit place left fault bad fits =
    let counts : List ℕ = body bad.good ++ bad.others in
    let inside : AreBytes bad.inside.rest = AreBytes-after (varint_spelling (length counts)) bad.inside.rest left.rest fits bad.numbered.spelled in
    let within_length : AreBytes counts = subst (λ (bytes : List ℕ). AreBytes bytes) (ap (take (length counts)) bad.parts ∙ take_at counts bad.rest (length counts) refl) (AreBytes-take (length counts) bad.inside.rest inside) in
    AreBytes-after (body bad.good) bad.others counts within_length refl

bad_list : (place : Place) (left : Left) (fault : PropFault) → AreBytes left.rest → BadProperty place left fault → list_of_length place left (placed left (varint_at left.rest)) ≡ failed fault
bad_list place left fault fits bad =
    let counts : List ℕ = body bad.good ++ bad.others in
    let after_all : Left = past bad.inside (length counts) in
    let first : Left = left_at (bad.inside.at + length (body bad.good)) bad.others in
    ap (list_of_length place left) (named_on left (length counts) bad.inside bad.numbered)
    ∙ ap (list_inside place after_all) (counted_inside left bad.inside counts bad.rest bad.parts)
    ∙ ap (list_from after_all) (refused_all place bad.good bad.inside.at bad.others fault bad.some bad.allowed (breaks_property place bad.good first fault (others_fit place left fault bad fits) bad.refused))

pub breaks_list : (place : Place) (left : Left) (fault : PropFault) → AreBytes left.rest → BreaksList place left fault → list_on place left ≡ Err fault
unfolding list_on
breaks_list place left fault fits (inl bad) =
    ap (λ (r : Result (ℕ × ℕ) Reason). list_of_length place left (placed left r)) ((varint_misspelled.exactly left.rest bad.reason fits).1 bad.misspelled) ∙ ap failed (sym bad.is)
breaks_list place left fault fits (inr (inl long)) = long_list place left fault long
breaks_list place left fault fits (inr (inr bad)) = bad_list place left fault fits bad

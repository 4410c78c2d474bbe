-- The place of a broken rule lies in the packet, or after its last byte.
use Rattle.std.proofs.Common.{◌≡◌, ℕ, zero, suc, ◌+◌, ◌≤◌, Bool, true, false, cond, List, [], ◌∷◌, length, Option, Some, None, Result, Ok, Err, refl, ap, subst, arith}
use Rattle.std.specs.Prelude.{◌==◌, if◌then◌else◌}
use Rattle.std.specs.List.{list_all, prefix_len}
use Rattle.std.proofs.Common.{length-drop}
use Rattle.mq_wire.specs.declared.fault.Reason.{Reason}
use Rattle.mq_wire.specs.Left.{Left, placed, past}
use Rattle.mq_wire.specs.Fields.{byte_at, two_bytes_at, varint_at, text_at, binary_at, ◌>>=◌}
use Rattle.mq_wire.proofs.Exports.{placed_ok}
use Rattle.mq_props.specs.declared.fault.PropFault.{PropFault}
use Rattle.mq_props.specs.declared.table.Place.{Place}
use Rattle.mq_props.specs.Values.{Property}
use Rattle.mq_props.specs.Reading.{from_wire, within_length, properties_on, list_on}
use Rattle.mq_props.proofs.Exports.{bind_ok, done_is, from_wire_ok, counted_ok, taken_by, byte_within, two_bytes_within, varint_within, text_within, binary_within, list_err_within}
use Rattle.mq_packet.specs.declared.rule.PacketRule.{PacketRule}
use Rattle.mq_packet.specs.declared.rule.PacketRule.TheVariants as rules
use Rattle.mq_packet.specs.declared.fault.DecodeFault.{DecodeFault}
use Rattle.mq_packet.specs.declared.fault.DecodeFault.TheVariants.{Broken, OtherVersion}
use Rattle.mq_packet.specs.Entries.{Entry, AskedFilter}
use Rattle.mq_packet.specs.Formats.{Kind, byte, two_bytes, text, binary, properties, ValueOf, Objection, breaks, other_version, is_code, filter_objection, options_objection, Format, done, rest, all_codes, all_filters, bad_first_byte, field, at_end, format_of}
use Rattle.mq_packet.specs.Decoding.{broken, objected, spelled, spelled_list, field_on, unless, read_field, codes_on, some_options, options_on, with_options, options_after, filter_on, filters_within, filters_on, read}
use Rattle.mq_packet.proofs.Readings.{by_field, by_objection}

-- The place after the last byte that is left.
abbrev end_of : Left → ℕ
end_of left = left.at + length left.rest

-- A field that was read leaves no byte after this place, and a rule that one breaks is broken up to it.
abbrev Ends : {X : Type 0} → ℕ → Result (X × Left) DecodeFault → Type 0
Ends last (Ok x) = end_of x.1 ≤ last
Ends last (Err (Broken fault)) = fault.at ≤ last
Ends last (Err (OtherVersion version)) = Unit {0}

wire_ends : {X : Type 0} (left : Left) (r : Result (X × ℕ) Reason) → taken_by r ≤ length left.rest → Ends (end_of left) (spelled (placed left r))
wire_ends left (Ok x) h = omega (arith, h, length-drop x.1 left.rest)
wire_ends left (Err reason) h = omega arith

-- what is left after a list
list_end : (place : Place) (left : Left) (ps : List Property) (new : Left) → list_on place left ≡ Ok (ps, new) → end_of new ≤ end_of left
unfolding list_on
list_end place left ps new e =
    let len = bind_ok (from_wire (placed left (varint_at left.rest))) (λ len. within_length left len.0 len.1 >>= λ inside. properties_on place [] inside >>= λ qs. Ok (qs, past len.1 len.0)) (ps, new) e in
    let inside = bind_ok (within_length left len.0.0 len.0.1) (λ inside. properties_on place [] inside >>= λ qs. Ok (qs, past len.0.1 len.0.0)) (ps, new) len.2 in
    let read = bind_ok (properties_on place [] inside.0) (λ qs. Ok (qs, past len.0.1 len.0.0)) (ps, new) inside.2 in
    let named = placed_ok left (varint_at left.rest) len.0.0 len.0.1 (from_wire_ok (placed left (varint_at left.rest)) len.0 len.1) in
    let enough : len.0.0 ≤ length len.0.1.rest = (counted_ok left len.0.0 len.0.1 inside.0 inside.1).0 in
    let size : named.0 ≤ length left.rest = subst (λ (r : Result (ℕ × ℕ) Reason). taken_by r ≤ length left.rest) named.1 (varint_within left.rest) in
    let first : end_of len.0.1 ≡ end_of (past left named.0) = ap end_of named.2 in
    let made : List Property × Left = (read.0, past len.0.1 len.0.0) in
    let trailing : end_of (past len.0.1 len.0.0) ≡ end_of new = ap (λ (x : List Property × Left). end_of x.1) (done_is made (ps, new) read.2) in
    omega (arith, first, trailing, enough, size, length-drop len.0.0 len.0.1.rest, length-drop named.0 left.rest)

list_ends : (place : Place) (left : Left) (r : Result (List Property × Left) PropFault) → list_on place left ≡ r → Ends (end_of left) (spelled_list r)
list_ends place left (Ok x) e = list_end place left x.0 x.1 e
list_ends place left (Err fault) e = (list_err_within place left fault e).1

field_ends : (kind : Kind) (left : Left) → Ends (end_of left) (field_on kind left)
field_ends byte left = wire_ends left (byte_at left.rest) (byte_within left.rest)
field_ends two_bytes left = wire_ends left (two_bytes_at left.rest) (two_bytes_within left.rest)
field_ends text left = wire_ends left (text_at left.rest) (text_within left.rest)
field_ends binary left = wire_ends left (binary_at left.rest) (binary_within left.rest)
field_ends (properties place) left = list_ends place left (list_on place left) refl

-- The place of a broken rule.
abbrev place_of : Result Entry DecodeFault → ℕ
place_of (Err (Broken fault)) = fault.at
place_of _ = 0

objected_place : (at : ℕ) (why : Objection) → place_of (Err (objected at why)) ≤ at
objected_place at (breaks rule) = omega arith
objected_place at (other_version version) = omega arith

-- Reading breaks rules at places up to the one after the last byte.
abbrev PlacesFit : Format → Type 0
PlacesFit format = (left : Left) → place_of (read format left) ≤ end_of left

module _ (kind : Kind) (objection : ValueOf kind → Option Objection) (next : ValueOf kind → Format) (left : Left) where
  objection_fits : ((value : ValueOf kind) → PlacesFit (next value)) → (x : ValueOf kind × Left) → end_of x.1 ≤ end_of left → (why : Option Objection) → place_of (by_objection kind next left.at x why) ≤ end_of left
  objection_fits later x h None = omega (arith, later x.0 x.1, h)
  objection_fits later x h (Some why) = omega (arith, objected_place left.at why)

  found_fits : ((value : ValueOf kind) → PlacesFit (next value)) → (found : Result (ValueOf kind × Left) DecodeFault) → Ends (end_of left) found → place_of (by_field kind objection next left.at found) ≤ end_of left
  found_fits later (Ok x) h = objection_fits later x h (objection x.0)
  found_fits later (Err (Broken fault)) h = h
  found_fits later (Err (OtherVersion version)) h = omega arith

done_fits : (packet : Entry) → PlacesFit (done packet)
done_fits packet left =
    elim (length left.rest == 0) as (λ b. place_of (if b then Ok packet else Err (broken left.at rules.W06)) ≤ end_of left) [ true ↦ omega arith | false ↦ omega arith ]

at_end_fits : (whole more : Format) → PlacesFit whole → PlacesFit more → PlacesFit (at_end whole more)
at_end_fits whole more one two left =
    elim (length left.rest == 0) as (λ b. place_of (if b then read whole left else read more left) ≤ end_of left) [ true ↦ one left | false ↦ two left ]

codes_fit : (table : List ℕ) (packet : List ℕ → Entry) → PlacesFit (all_codes table packet)
unfolding codes_on
codes_fit table packet left =
    elim (list_all (is_code table) left.rest) as (λ t. place_of ((if t then Ok left.rest else Err (broken (left.at + prefix_len (is_code table) left.rest) rules.W13)) >>= (λ reasons. Ok (packet reasons))) ≤ end_of left) [
      | true ↦ omega arith
      | false ↦ (let fits : prefix_len (is_code table) left.rest ≤ length left.rest = prefix_within (is_code table) left.rest in omega (arith, fits))
    ]
  where
    prefix_within : (test : ℕ → Bool) (bytes : List ℕ) → prefix_len test bytes ≤ length bytes
    prefix_within test [] = omega arith
    prefix_within test (b ∷ bytes) = (let more = prefix_within test bytes in elim (test b) as (λ t. cond t (1 + prefix_len test bytes) 0 ≤ length (b ∷ bytes)) [ true ↦ omega (arith, more) | false ↦ omega arith ])

-- The same up to a later place.
ends_before : {X : Type 0} (m n : ℕ) (r : Result (X × Left) DecodeFault) → m ≤ n → Ends m r → Ends n r
ends_before m n (Ok x) le h = omega (arith, le, h)
ends_before m n (Err (Broken fault)) le h = omega (arith, le, h)
ends_before m n (Err (OtherVersion version)) le h = tt

-- A field with what is objected to it.
read_ends : (kind : Kind) (objection : ValueOf kind → Option Objection) (left : Left) → Ends (end_of left) (read_field kind objection left)
read_ends kind objection left = by_found (field_on kind left) (field_ends kind left)
  where
    by_why : (x : ValueOf kind × Left) → end_of x.1 ≤ end_of left → (why : Option Objection) → Ends (end_of left) (unless left.at why x)
    by_why x h None = h
    by_why x h (Some (breaks rule)) = omega arith
    by_why x h (Some (other_version version)) = tt

    by_found : (found : Result (ValueOf kind × Left) DecodeFault) → Ends (end_of left) found → Ends (end_of left) (found >>= (λ x. unless left.at (objection x.0) x))
    by_found (Ok x) h = by_why x h (objection x.0)
    by_found (Err (Broken fault)) h = h
    by_found (Err (OtherVersion version)) h = tt

-- The options after a filter, and the filter with them.
options_end : (last : ℕ) (filter : List ℕ) (found : Result (Option ℕ × Left) DecodeFault) → Ends last found → Ends last (found >>= with_options filter)
options_end last filter (Ok x) h = h
options_end last filter (Err (Broken fault)) h = h
options_end last filter (Err (OtherVersion version)) h = tt

byte_end : (last : ℕ) (found : Result (ℕ × Left) DecodeFault) → Ends last found → Ends last (found >>= some_options)
byte_end last (Ok x) h = h
byte_end last (Err (Broken fault)) h = h
byte_end last (Err (OtherVersion version)) h = tt

options_on_end : (asks : Bool) (left : Left) → Ends (end_of left) (options_on asks left)
options_on_end false left = omega arith
options_on_end true left = byte_end (end_of left) (read_field byte options_objection left) (read_ends byte options_objection left)

text_end : (asks : Bool) (last : ℕ) (found : Result (List ℕ × Left) DecodeFault) → Ends last found → Ends last (found >>= options_after asks)
text_end asks last (Ok x) h = ends_before (end_of x.1) last (options_after asks x) h (options_end (end_of x.1) x.0 (options_on asks x.1) (options_on_end asks x.1))
text_end asks last (Err (Broken fault)) h = h
text_end asks last (Err (OtherVersion version)) h = tt

-- The place of a rule that filters break.
abbrev rule_at : Result (List AskedFilter) DecodeFault → ℕ
rule_at (Err (Broken fault)) = fault.at
rule_at _ = 0

others_fit : (filter : AskedFilter) (last : ℕ) (found : Result (List AskedFilter) DecodeFault) → rule_at found ≤ last → rule_at (found >>= (λ others. Ok (filter ∷ others))) ≤ last
others_fit filter last (Ok fs) h = omega arith
others_fit filter last (Err (Broken fault)) h = h
others_fit filter last (Err (OtherVersion version)) h = h

filter_fits : (n : ℕ) (asks : Bool) (last : ℕ) → ((left : Left) → rule_at (filters_within n asks left) ≤ end_of left) → (found : Result (AskedFilter × Left) DecodeFault) → Ends last found
    → rule_at (found >>= (λ x. filters_within n asks x.1 >>= (λ others. Ok (x.0 ∷ others)))) ≤ last
filter_fits n asks last later (Ok x) h = others_fit x.0 last (filters_within n asks x.1) (omega (arith, later x.1, h))
filter_fits n asks last later (Err (Broken fault)) h = h
filter_fits n asks last later (Err (OtherVersion version)) h = omega arith

within_fits : (n : ℕ) (asks : Bool) (left : Left) → rule_at (filters_within n asks left) ≤ end_of left
within_fits zero asks left = omega arith
within_fits (suc n) asks left =
    elim (length left.rest == 0) as (λ b. rule_at (if b then Ok [] else (filter_on asks left >>= (λ x. filters_within n asks x.1 >>= (λ others. Ok (x.0 ∷ others))))) ≤ end_of left) [
      | true ↦ omega arith
      | false ↦ filter_fits n asks (end_of left) (within_fits n asks) (filter_on asks left) (text_end asks (end_of left) (read_field text filter_objection left) (read_ends text filter_objection left))
    ]

on_fits : (asks : Bool) (left : Left) → rule_at (filters_on asks left) ≤ end_of left
unfolding filters_on
on_fits asks left =
    elim (length left.rest == 0) as (λ b. rule_at (if b then Err (broken left.at rules.W16) else filters_within (length left.rest) asks left) ≤ end_of left) [
      | true ↦ omega arith
      | false ↦ within_fits (length left.rest) asks left
    ]

filters_fit : (asks : Bool) (packet : List AskedFilter → Entry) → PlacesFit (all_filters asks packet)
filters_fit asks packet left = made (filters_on asks left) (on_fits asks left)
  where
    made : (found : Result (List AskedFilter) DecodeFault) → rule_at found ≤ end_of left → place_of (found >>= (λ filters. Ok (packet filters))) ≤ end_of left
    made (Ok fs) h = omega arith
    made (Err (Broken fault)) h = h
    made (Err (OtherVersion version)) h = omega arith

places_fit : (format : Format) → PlacesFit format
places_fit (done packet) left = done_fits packet left
places_fit (rest packet) left = omega arith
places_fit (all_codes table packet) left = codes_fit table packet left
places_fit (all_filters asks packet) left = filters_fit asks packet left
places_fit (bad_first_byte rule) left = omega arith
places_fit (field kind objection next) left = found_fits kind objection next left (λ value. places_fit (next value)) (field_on kind left) (field_ends kind left)
places_fit (at_end whole more) left = at_end_fits whole more (places_fit whole) (places_fit more) left

-- A place in a packet that may be, of at most 268,435,460 bytes.
pub place_fits : (first at : ℕ) (left : Left) (rule : PacketRule) → read (format_of first) left ≡ Err (broken at rule) → left.at ≤ 5 → length left.rest ≤ 268435455 → at ≤ 268435460
place_fits first at left rule e h fits = omega (arith, places_fit (format_of first) left, ap place_of e, h, fits)

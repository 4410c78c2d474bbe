-- A property that is read in a quick way is the one that is read there.
use Rattle.std.proofs.Common.{◌≡◌, ◌≢◌, ℕ, ◌+◌, ◌<◌, Bool, true, false, not, ◌&&◌, eqb, ltb, List, [], ◌∷◌, ◌++◌, drop, Option, None, Some, Ok, Err, Result, is_ok, is_some, refl, sym, ap, subst, ◌∙◌, arith}
use Rattle.std.specs.Prelude.{IfSome}
use Rattle.std.proofs.lemmas.Bool.{lt-ltb, ne_eqb}
use Rattle.std.proofs.lemmas.List.{drop-drop}
use Rattle.mq_wire.specs.Left.{Left, past, placed, Took}
use Rattle.mq_wire.specs.Fields.{byte_at, two_bytes_at, four_bytes_at, varint_at, text_at, pair_at, binary_at}
use Rattle.mq_wire.specs.Plain.{is_plain, is_plain_byte}
use Rattle.mq_wire.proofs.Exports.{both, placed_ok}
use Rattle.mq_wire.specs.declared.fault.WireFault.{WireFault}
use Rattle.mq_topic.specs.Levels.{is_name}
use Rattle.mq_props.specs.declared.facts.Facts.{Facts}
use Rattle.mq_props.specs.declared.table.Place.{Place}
use Rattle.mq_props.specs.declared.table.Place.TheVariants as places
use Rattle.mq_props.specs.Identifiers.{payload_format_indicator, message_expiry_interval, content_type, response_topic, correlation_data, subscription_identifier, topic_alias, user_property}
use Rattle.mq_props.specs.Table.{same_place, row_of, rows}
use Rattle.mq_props.specs.Values.{Property, byte_value, two_bytes_value, four_bytes_value, varint_value, text_value, pair_value, binary_value}
use Rattle.mq_props.specs.Allowed.{occurs_in, is_repeated, is_wild}
use Rattle.mq_props.specs.Reading.{property_on}
use Rattle.mq_props.specs.Usual.{HasValue, Follows, ReadsMore}
use Rattle.mq_props.specs.Views.{Knows}
use Rattle.mq_props.proofs.Finding.{line_known, known_below}

-- ---- a plain text has no wildcard

no_wildcard : (a b c d : Bool) → (a && (b && (c && d))) ≡ true → (c && d) ≡ true
no_wildcard true true c d h = h
no_wildcard true false c d h = absurd cc
no_wildcard false b c d h = absurd cc

pub plain_name : (text : List ℕ) → is_plain text ≡ true → is_name text ≡ true
plain_name [] h = refl
plain_name (b ∷ text) h =
    let parts : (is_plain_byte b ≡ true) × (is_plain text ≡ true) = both (is_plain_byte b) (is_plain text) h in
    rw (no_wildcard (ltb b 128) (not (eqb b 0)) (not (eqb b 35)) (not (eqb b 43)) parts.0, plain_name text parts.1) refl

-- ---- values

-- a read that gave a value
pub took_some : {X Y : Type 0} (view : X → Y) (result : Result X WireFault) (old new : Left) (read : Result (Y × Left) WireFault) → Took view result old read new → is_ok result ≡ true → (y : Y) × (read ≡ Ok (y, new))
took_some view (Ok x) old new read took there = (view x, took)
took_some view (Err fault) old new read took there = absurd cc

-- a plain text was read
pub text_some : {R : Type 0} (view : R → List ℕ) (result : Option R) (old new : Left) → IfSome result (λ text. placed old (text_at old.rest) ≡ Ok (view text, new)) → IfSome result (λ text. is_plain (view text) ≡ true) → is_some result ≡ true
    → (text : List ℕ) × (placed old (text_at old.rest) ≡ Ok (text, new)) × (is_plain text ≡ true)
text_some view None old new read plain there = absurd cc
text_some view (Some text) old new read plain there = (view text, read, plain)

pub has_byte : (left new : Left) (n : ℕ) → placed left (byte_at left.rest) ≡ Ok (n, new) → HasValue payload_format_indicator left new
unfolding row_of rows
has_byte left new n e = record { line = _; value = byte_value n; known = refl; listed = refl; read = rw e refl; ranged = refl; plain = refl }

pub has_four_bytes : (left new : Left) (n : ℕ) → placed left (four_bytes_at left.rest) ≡ Ok (n, new) → HasValue message_expiry_interval left new
unfolding row_of rows
has_four_bytes left new n e = record { line = _; value = four_bytes_value n; known = refl; listed = refl; read = rw e refl; ranged = refl; plain = refl }

pub has_binary : (left new : Left) (bytes : List ℕ) → placed left (binary_at left.rest) ≡ Ok (bytes, new) → HasValue correlation_data left new
unfolding row_of rows
has_binary left new bytes e = record { line = _; value = binary_value bytes; known = refl; listed = refl; read = rw e refl; ranged = refl; plain = refl }

pub has_text : (left new : Left) (text : List ℕ) → placed left (text_at left.rest) ≡ Ok (text, new) → HasValue content_type left new
unfolding row_of rows
has_text left new text e = record { line = _; value = text_value text; known = refl; listed = refl; read = rw e refl; ranged = refl; plain = refl }

pub has_topic : (left new : Left) (text : List ℕ) → placed left (text_at left.rest) ≡ Ok (text, new) → is_plain text ≡ true → HasValue response_topic left new
unfolding row_of rows
has_topic left new text e plain = record { line = _; value = text_value text; known = refl; listed = refl; read = rw e refl; ranged = refl; plain = rw (plain_name text plain) refl }

pub has_pair : (left new : Left) (name value : List ℕ) → placed left (pair_at left.rest) ≡ Ok ((name, value), new) → HasValue user_property left new
unfolding row_of rows
has_pair left new name value e = record { line = _; value = pair_value name value; known = refl; listed = refl; read = rw e refl; ranged = refl; plain = refl }

-- a Topic Alias after properties that have none
pub follows_alias : (facts later : Facts) (left new : Left) (n : ℕ) → placed left (two_bytes_at left.rest) ≡ Ok (n, new) → n ≢ 0 → ((before : List Property) → Knows facts before → occurs_in topic_alias before ≡ false)
    → ((before : List Property) → Knows facts before → Knows later (before ++ record { id = topic_alias; value = two_bytes_value n } ∷ [])) → Follows facts topic_alias left later new
unfolding row_of rows
follows_alias facts later left new n e some none knows = record {
  has = record { line = _; value = two_bytes_value n; known = refl; listed = refl; read = rw e refl; ranged = rw (ne_eqb n 0 some) refl; plain = refl };
  once = λ before known. rw (none before known) refl;
  knows = knows;
}

-- ---- an identifier of one byte

named_by : (bytes : List ℕ) (at id : ℕ) (new : Left) → id < 128 → (let left : Left = record { at = at; rest = bytes } in placed left (byte_at bytes)) ≡ Ok (id, new) → (let left : Left = record { at = at; rest = bytes } in placed left (varint_at bytes)) ≡ Ok (id, new)
unfolding varint_at
named_by [] at id new lt e = absurd cc
named_by (a ∷ bytes) at id new lt e =
    let left : Left = record { at = at; rest = a ∷ bytes } in
    let made : ℕ × Left = (a, past left 1) in
    let found : ℕ × Left = (id, new) in
    let whole : made ≡ found = cc in
    let same : a ≡ id = ap (λ (x : ℕ × Left). x.0) whole in
    let below : a < 128 = omega (arith, lt, same) in
    rw (lt-ltb a 128 below) e

pub named : (left : Left) (id : ℕ) (new : Left) → id < 128 → placed left (byte_at left.rest) ≡ Ok (id, new) → placed left (varint_at left.rest) ≡ Ok (id, new)
named left id new lt e = named_by left.rest left.at id new lt e

pub has_number : (left new : Left) (n : ℕ) → placed left (byte_at left.rest) ≡ Ok (n, new) → 0 < n → n < 128 → HasValue subscription_identifier left new
unfolding row_of rows
has_number left new n e some below = record { line = _; value = varint_value n; known = refl; listed = refl; read = rw (named left n new below e) refl; ranged = rw (ne_eqb n 0 (λ zero. omega (arith, some, zero))) refl; plain = refl }

past_both : (left : Left) (a b : ℕ) → past (past left a) b ≡ past left (a + b)
past_both left a b =
    let at : left.at + a + b ≡ left.at + (a + b) = omega arith in
    ap (λ (n : ℕ). let l : Left = record { at = n; rest = drop b (drop a left.rest) } in l) at ∙ ap (λ (rest : List ℕ). let l : Left = record { at = left.at + (a + b); rest = rest } in l) (drop-drop b a left.rest)

abbrev pair_read : List ℕ × List ℕ → Left → Result ((List ℕ × List ℕ) × Left) WireFault
pair_read texts left = Ok (texts, left)

-- a name, and then a value
pair_from : (left inside new : Left) (name value : List ℕ) → placed left (text_at left.rest) ≡ Ok (name, inside) → placed inside (text_at inside.rest) ≡ Ok (value, new) → placed left (pair_at left.rest) ≡ Ok ((name, value), new)
unfolding pair_at
pair_from left inside new name value first second =
    let one = placed_ok left (text_at left.rest) name inside first in
    let two = placed_ok inside (text_at inside.rest) value new second in
    let there : text_at (drop one.0 left.rest) ≡ Ok (value, two.0) = subst (λ (l : Left). text_at l.rest ≡ Ok (value, two.0)) one.2 two.1 in
    let whole : new ≡ past left (one.0 + two.0) = two.2 ∙ ap (λ (l : Left). past l two.0) one.2 ∙ past_both left one.0 two.0 in
    rw (one.1, there) (ap (λ (l : Left). pair_read (name, value) l) (sym whole))

pub has_texts : (left inside new : Left) (name value : List ℕ) → placed left (text_at left.rest) ≡ Ok (name, inside) → placed inside (text_at inside.rest) ≡ Ok (value, new) → HasValue user_property left new
has_texts left inside new name value first second = has_pair left new name value (pair_from left inside new name value first second)

-- ---- the property

pub reads_more : (facts later : Facts) (id : ℕ) (left inside new : Left) → placed left (byte_at left.rest) ≡ Ok (id, inside) → Follows facts id inside later new → ReadsMore places.Publish facts left later new
unfolding property_on
reads_more facts later id left inside new byte follows before knows =
    let has = follows.has in
    let same : has.line.id ≡ id = line_known id has.line has.known in
    let below = known_below id has.line has.known in
    let name = named left id inside (omega (arith, below, same)) byte in
    let once : is_repeated places.Publish before has.line.id ≡ false = rw same (follows.once before knows) in
    let plain : is_wild places.Publish has.line.id has.value ≡ false = rw same has.plain in (
      record { id = id; value = has.value },
      rw (name, has.known, has.listed, once, has.read, has.ranged, plain, same) refl,
      follows.knows before knows,
    )

-- the same for what a call gives
pub more_if : (facts : Facts) (result : Option Facts) (id named_id : ℕ) (left inside new : Left) → id ≡ named_id → placed left (byte_at left.rest) ≡ Ok (id, inside) → IfSome result (λ later. Follows facts named_id inside later new)
    → IfSome result (λ later. ReadsMore places.Publish facts left later new)
more_if facts None id named_id left inside new same byte follows = tt
more_if facts (Some later) id named_id left inside new same byte follows = reads_more facts later named_id left inside new (subst (λ (n : ℕ). placed left (byte_at left.rest) ≡ Ok (n, inside)) same byte) follows

-- the identifier of a value is below 43
pub value_below : (id : ℕ) (left new : Left) → HasValue id left new → id < 43
value_below id left new has = subst (λ (n : ℕ). n < 43) (line_known id has.line has.known) (known_below id has.line has.known)

-- ---- the place

pub publish_is : (place : Place) → same_place place places.Publish ≡ true → place ≡ places.Publish
publish_is places.Publish e = refl
publish_is place e = absurd cc

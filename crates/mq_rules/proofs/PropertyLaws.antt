-- A property list that no bytes spell, and one without a Subscription Identifier.
use Rattle.std.proofs.Common.{◌≡◌, Bool, true, false, ◌==◌, List, [], ◌∷◌, ◌++◌, Option, None, Some, is_some, sym, ap, ◌∙◌, refl}
use Rattle.std.proofs.lemmas.Bool.{eqb-true}
use Rattle.mq_props.specs.declared.table.Place.{Place}
use Rattle.mq_props.specs.declared.table.ValueType.{ValueType}
use Rattle.mq_props.specs.declared.table.ValueType.TheVariants as types
use Rattle.mq_props.specs.Values.{Value, byte_value, two_bytes_value, four_bytes_value, varint_value, text_value, pair_value, binary_value, Property, body, value_type}
use Rattle.mq_props.specs.Table.{Line, row_of, rows}
use Rattle.mq_props.specs.Allowed.{IsAllowed, AllowedAfter, AreAllowed}
use Rattle.mq_props.specs.First.{as_varint, first_varint}
use Rattle.mq_props.specs.Reading.{items_on, items_of}
use Rattle.mq_props.proofs.Exports.{items_of-body}
use Rattle.mq_rules.specs.Notes.{subscription_identifiers_in}

none_of_none : items_of [] ≡ []
unfolding items_of items_on
none_of_none = refl

-- it has no properties
pub none_from_no_bytes : (place : Place) (ps : List Property) → AreAllowed place ps → body ps ≡ [] → ps ≡ []
none_from_no_bytes place ps allowed none = sym (items_of-body place ps allowed) ∙ ap items_of none ∙ none_of_none

-- ---- Subscription Identifiers

line-11 : (line : Line) → row_of 11 ≡ Some line → types.Varint ≡ line.kind
unfolding row_of rows
line-11 line known = ap kind_of known
  where
    kind_of : Option Line → ValueType
    kind_of None = types.Varint
    kind_of (Some line) = line.kind

is-varint : (value : Value) → value_type value ≡ types.Varint → is_some (as_varint value) ≡ true
is-varint (byte_value n) e = absurd cc
is-varint (two_bytes_value n) e = absurd cc
is-varint (four_bytes_value n) e = absurd cc
is-varint (varint_value n) e = refl
is-varint (text_value t) e = absurd cc
is-varint (pair_value name value) e = absurd cc
is-varint (binary_value bytes) e = absurd cc

-- what has its identifier is a Variable Byte Integer
is-number : (place : Place) (before : List Property) (p : Property) → IsAllowed place before p → p.id ≡ 11 → is_some (as_varint p.value) ≡ true
is-number place before p allowed e =
    is-varint p.value (allowed.typed ∙ sym (line-11 allowed.line (sym (ap row_of e) ∙ allowed.known)))

none-after : (place : Place) (before ps : List Property) → AllowedAfter place before ps → is_some (first_varint 11 ps) ≡ false → subscription_identifiers_in ps ≡ []
none-after place before [] allowed none = refl
none-after place before (p ∷ ps) allowed none = by_cases (p.id == 11) refl (none-after place (before ++ p ∷ []) ps allowed.1)
  where
    by_cases : (b : Bool) → (p.id == 11) ≡ b → (is_some (first_varint 11 ps) ≡ false → subscription_identifiers_in ps ≡ []) → subscription_identifiers_in (p ∷ ps) ≡ []
    by_cases true e later =
        let number : is_some (as_varint p.value) ≡ true = is-number place before p allowed.0 (eqb-true p.id 11 e) in
        let never : is_some (as_varint p.value) ≡ false = rw e at none in
        absurd cc
    by_cases false e later = rw e (later (rw e at none))

-- it is none of a list's properties
pub none_without : (place : Place) (ps : List Property) → AreAllowed place ps → is_some (first_varint 11 ps) ≡ false → subscription_identifiers_in ps ≡ []
none_without place ps allowed none = none-after place [] ps allowed none

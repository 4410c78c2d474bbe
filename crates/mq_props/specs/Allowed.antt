-- Which properties a list may have (MQTT 5.0, 2.2.2.2).
use Rattle.std.specs.Prelude.{◌≡◌, ℕ, Bool, true, false, ◌&&◌, not, List, [], ◌∷◌, ◌++◌, length, Option, Some, nat_lt, ◌==◌}
use Rattle.std.specs.List.{list_any, find}
use Rattle.std.specs.Option.{option_map}
use Rattle.mq_wire.specs.Spellings.{IsVarint, varint_spelling}
use Rattle.mq_topic.specs.Levels.{is_name}
use Rattle.mq_props.specs.declared.table.Place.{Place}
use Rattle.mq_props.specs.declared.table.Place.TheVariants.{Publish}
use Rattle.mq_props.specs.declared.table.Range.{Range}
use Rattle.mq_props.specs.declared.table.Range.TheVariants.{Any, NotZero, ZeroOrOne}
use Rattle.mq_props.specs.Identifiers.{response_topic}
use Rattle.mq_props.specs.Table.{Line, row_of, same_place, is_listed, may_repeat}
use Rattle.mq_props.specs.Values.{Value, byte_value, two_bytes_value, four_bytes_value, varint_value, text_value, pair_value, binary_value, Property, value_type, IsValue, body}

-- A property with the identifier is among these.
abbrev pub occurs_in : ℕ → List Property → Bool
occurs_in id ps = list_any (λ p. p.id == id) ps

-- A property with the identifier may not follow these, since it is among them and may be in the list only once.
abbrev pub is_repeated : Place → List Property → ℕ → Bool
is_repeated place before id = occurs_in id before && not (may_repeat place id)

-- The number is in the range.
abbrev pub number_in_range : Range → ℕ → Bool
number_in_range Any n = true
number_in_range NotZero n = not (n == 0)
number_in_range ZeroOrOne n = nat_lt n 2

-- The value is in the range. A range restricts numbers alone.
abbrev pub in_range : Range → Value → Bool
in_range range (byte_value n) = number_in_range range n
in_range range (two_bytes_value n) = number_in_range range n
in_range range (four_bytes_value n) = number_in_range range n
in_range range (varint_value n) = number_in_range range n
in_range range (text_value t) = true
in_range range (pair_value name value) = true
in_range range (binary_value bytes) = true

-- The value is a text that has a wildcard.
abbrev pub has_wildcard : Value → Bool
has_wildcard (byte_value n) = false
has_wildcard (two_bytes_value n) = false
has_wildcard (four_bytes_value n) = false
has_wildcard (varint_value n) = false
has_wildcard (text_value t) = not (is_name t)
has_wildcard (pair_value name value) = false
has_wildcard (binary_value bytes) = false

-- The value is a Response Topic of a PUBLISH with a wildcard (3.3.2.3.5).
abbrev pub is_wild : Place → ℕ → Value → Bool
is_wild place id value = same_place place Publish && id == response_topic && has_wildcard value

-- The property is allowed in the place's list after these.
pub record IsAllowed (place : Place) (before : List Property) (p : Property) : Type 0 where
  pub line : Line
  pub known : row_of p.id ≡ Some line
  pub listed : is_listed place line ≡ true
  pub once : is_repeated place before p.id ≡ false
  pub typed : value_type p.value ≡ line.kind
  pub valid : IsValue p.value
  pub ranged : in_range line.range p.value ≡ true
  pub plain : is_wild place p.id p.value ≡ false

-- Each of the properties is allowed in the list after these and those before it.
abbrev pub AllowedAfter : Place → List Property → List Property → Type 0
AllowedAfter place before [] = Unit {0}
AllowedAfter place before (p ∷ ps) = IsAllowed place before p × AllowedAfter place (before ++ p ∷ []) ps

-- The properties are a valid list for the place.
abbrev pub AreAllowed : Place → List Property → Type 0
AreAllowed place ps = AllowedAfter place [] ps

-- The bytes are a property list of the place: the length of the properties' spelling, and that spelling.
pub record Lists (place : Place) (ps : List Property) (bytes : List ℕ) : Type 0 where
  pub spelled : bytes ≡ varint_spelling (length (body ps)) ++ body ps
  pub bound : IsVarint (length (body ps))
  pub allowed : AreAllowed place ps

-- The value of the first property with the identifier, if one is there.
abbrev pub first_of : ℕ → List Property → Option Value
first_of id ps = option_map (λ p. p.value) (find (λ p. p.id == id) ps)

-- What may be said of a property by its Property Identifier, which names its line of the table (MQTT 5.0, 2.2.2.2).
use Rattle.std.specs.Prelude.{ℕ, Bool, true, false, not, List, Option, Some, None}
use Rattle.std.specs.List.{list_any}
use Rattle.mq_props.specs.declared.table.Place.{Place}
use Rattle.mq_props.specs.declared.table.Range.{Range}
use Rattle.mq_props.specs.declared.table.Range.TheVariants as ranges
use Rattle.mq_props.specs.declared.table.ValueType.{ValueType}
use Rattle.mq_props.specs.declared.table.ValueType.TheVariants as types
use Rattle.mq_props.specs.Table.{Line, row_of, may_repeat}
use Rattle.mq_props.specs.Values.{Property}

-- the line of a property's identifier, if it has one, is such
abbrev pub in_line : (Line → Bool) → Option Line → Bool
in_line test None = false
in_line test (Some line) = test line

-- a value of the type has texts: it is one, or a pair of them
abbrev pub is_textual : ValueType → Bool
is_textual types.Byte = false
is_textual types.TwoBytes = false
is_textual types.FourBytes = false
is_textual types.Varint = false
is_textual types.Text = true
is_textual types.Pair = true
is_textual types.Binary = false

-- not each value of the type is allowed
abbrev pub is_restricted : Range → Bool
is_restricted ranges.Any = false
is_restricted ranges.NotZero = true
is_restricted ranges.ZeroOrOne = true

-- a property of this identifier has a text
abbrev pub has_text : ℕ → Bool
has_text id = in_line (λ line. is_textual line.kind) (row_of id)

-- a property of this identifier may not have each value of its type
abbrev pub has_range : ℕ → Bool
has_range id = in_line (λ line. is_restricted line.range) (row_of id)

-- a property of this identifier may be in the place's list only once
abbrev pub is_single : Place → ℕ → Bool
is_single place id = not (may_repeat place id)

-- some property of a list has an identifier of which this is so
abbrev pub any_property : (ℕ → Bool) → List Property → Bool
any_property test items = list_any (λ p. test p.id) items

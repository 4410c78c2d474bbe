-- Properties and their values, and how each is spelled (MQTT 5.0, 2.2.2.2 and 1.5).
use Rattle.std.specs.Prelude.{ℕ, List, ◌++◌}
use Rattle.std.specs.List.{flat_map}
use Rattle.mq_wire.specs.Spellings.{IsByte, IsTwoBytes, IsFourBytes, IsVarint, IsText, IsBinary, IsPair, byte_spelling, two_bytes_spelling, four_bytes_spelling, varint_spelling, text_spelling, binary_spelling, pair_spelling}
use Rattle.mq_props.specs.declared.table.ValueType.{ValueType}
use Rattle.mq_props.specs.declared.table.ValueType.TheVariants as types

-- A value of one of the seven types.
pub data Value : Type 0 where
  byte_value : ℕ → Value
  two_bytes_value : ℕ → Value
  four_bytes_value : ℕ → Value
  varint_value : ℕ → Value
  text_value : List ℕ → Value
  pair_value : List ℕ → List ℕ → Value
  binary_value : List ℕ → Value

-- A property: its Property Identifier, and its value.
pub record Property : Type 0 where
  pub id : ℕ
  pub value : Value

-- The type of a value.
abbrev pub value_type : Value → ValueType
value_type (byte_value n) = types.Byte
value_type (two_bytes_value n) = types.TwoBytes
value_type (four_bytes_value n) = types.FourBytes
value_type (varint_value n) = types.Varint
value_type (text_value t) = types.Text
value_type (pair_value name value) = types.Pair
value_type (binary_value bytes) = types.Binary

-- The values of each type.
abbrev pub IsValue : Value → Type 0
IsValue (byte_value n) = IsByte n
IsValue (two_bytes_value n) = IsTwoBytes n
IsValue (four_bytes_value n) = IsFourBytes n
IsValue (varint_value n) = IsVarint n
IsValue (text_value t) = IsText t
IsValue (pair_value name value) = IsPair (name, value)
IsValue (binary_value bytes) = IsBinary bytes

-- The spelling of a value.
abbrev pub value_spelling : Value → List ℕ
value_spelling (byte_value n) = byte_spelling n
value_spelling (two_bytes_value n) = two_bytes_spelling n
value_spelling (four_bytes_value n) = four_bytes_spelling n
value_spelling (varint_value n) = varint_spelling n
value_spelling (text_value t) = text_spelling t
value_spelling (pair_value name value) = pair_spelling (name, value)
value_spelling (binary_value bytes) = binary_spelling bytes

-- A property is spelled as its identifier, a Variable Byte Integer, and its value.
abbrev pub property_spelling : Property → List ℕ
property_spelling p = varint_spelling p.id ++ value_spelling p.value

-- The properties of a list are spelled one after another.
abbrev pub body : List Property → List ℕ
body ps = flat_map property_spelling ps

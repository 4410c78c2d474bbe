-- The types of field (MQTT 5.0, 1.5): the values of each, and how they are spelled.
use Rattle.std.specs.Prelude.{ℕ, List}
use Rattle.mq_wire.specs.Spellings.{IsByte, byte_spelling, IsTwoBytes, two_bytes_spelling, IsFourBytes, four_bytes_spelling, IsVarint, varint_spelling, IsText, text_spelling, IsPair, pair_spelling, IsBinary, binary_spelling}

pub data FieldType : Type 0 where
  one_byte two_byte_integer four_byte_integer variable_byte_integer utf8_string string_pair binary_data : FieldType

-- What a value of the type is: a number, some bytes, or a name and a value.
abbrev pub FieldValue : FieldType → Type 0
FieldValue one_byte = ℕ
FieldValue two_byte_integer = ℕ
FieldValue four_byte_integer = ℕ
FieldValue variable_byte_integer = ℕ
FieldValue utf8_string = List ℕ
FieldValue string_pair = List ℕ × List ℕ
FieldValue binary_data = List ℕ

-- The values of the type.
abbrev pub IsFieldValue : (type : FieldType) → FieldValue type → Type 0
IsFieldValue one_byte value = IsByte value
IsFieldValue two_byte_integer value = IsTwoBytes value
IsFieldValue four_byte_integer value = IsFourBytes value
IsFieldValue variable_byte_integer value = IsVarint value
IsFieldValue utf8_string value = IsText value
IsFieldValue string_pair value = IsPair value
IsFieldValue binary_data value = IsBinary value

-- The spelling of a value of the type.
abbrev pub field_spelling : (type : FieldType) → FieldValue type → List ℕ
field_spelling one_byte value = byte_spelling value
field_spelling two_byte_integer value = two_bytes_spelling value
field_spelling four_byte_integer value = four_bytes_spelling value
field_spelling variable_byte_integer value = varint_spelling value
field_spelling utf8_string value = text_spelling value
field_spelling string_pair value = pair_spelling value
field_spelling binary_data value = binary_spelling value

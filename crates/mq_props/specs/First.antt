-- The first property of a kind in a list.
use Rattle.std.specs.Prelude.{ℕ, List, Option, None, Some, option_and_then}
use Rattle.mq_props.specs.Values.{Value, byte_value, two_bytes_value, four_bytes_value, varint_value, text_value, pair_value, binary_value, Property}
use Rattle.mq_props.specs.Allowed.{first_of}

-- The value, if it is a byte.
abbrev pub as_byte : Value → Option ℕ
as_byte (byte_value x) = Some x
as_byte _ = None

-- The value of the first property with the identifier, if it is there and a byte.
abbrev pub first_byte : ℕ → List Property → Option ℕ
first_byte id ps = option_and_then as_byte (first_of id ps)

-- The value, if it is a Two Byte Integer.
abbrev pub as_two_bytes : Value → Option ℕ
as_two_bytes (two_bytes_value x) = Some x
as_two_bytes _ = None

-- The value of the first property with the identifier, if it is there and a Two Byte Integer.
abbrev pub first_two_bytes : ℕ → List Property → Option ℕ
first_two_bytes id ps = option_and_then as_two_bytes (first_of id ps)

-- The value, if it is a Four Byte Integer.
abbrev pub as_four_bytes : Value → Option ℕ
as_four_bytes (four_bytes_value x) = Some x
as_four_bytes _ = None

-- The value of the first property with the identifier, if it is there and a Four Byte Integer.
abbrev pub first_four_bytes : ℕ → List Property → Option ℕ
first_four_bytes id ps = option_and_then as_four_bytes (first_of id ps)

-- The value, if it is a Variable Byte Integer.
abbrev pub as_varint : Value → Option ℕ
as_varint (varint_value x) = Some x
as_varint _ = None

-- The value of the first property with the identifier, if it is there and a Variable Byte Integer.
abbrev pub first_varint : ℕ → List Property → Option ℕ
first_varint id ps = option_and_then as_varint (first_of id ps)

-- The value, if it is a text.
abbrev pub as_text : Value → Option (List ℕ)
as_text (text_value x) = Some x
as_text _ = None

-- The value of the first property with the identifier, if it is there and a text.
abbrev pub first_text : ℕ → List Property → Option (List ℕ)
first_text id ps = option_and_then as_text (first_of id ps)

-- The value, if it is a pair of texts.
abbrev pub as_pair : Value → Option (List ℕ × List ℕ)
as_pair (pair_value name value) = Some (name, value)
as_pair _ = None

-- The value of the first property with the identifier, if it is there and a pair of texts.
abbrev pub first_pair : ℕ → List Property → Option (List ℕ × List ℕ)
first_pair id ps = option_and_then as_pair (first_of id ps)

-- The value, if it is binary data.
abbrev pub as_binary : Value → Option (List ℕ)
as_binary (binary_value x) = Some x
as_binary _ = None

-- The value of the first property with the identifier, if it is there and binary data.
abbrev pub first_binary : ℕ → List Property → Option (List ℕ)
first_binary id ps = option_and_then as_binary (first_of id ps)

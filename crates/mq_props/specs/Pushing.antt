-- Which properties may be appended to a list that is being built.
use Rattle.std.specs.Prelude.{◌≡◌, ℕ, ◌+◌, ◌<◌, ◌≤◌, Bool, false, not, ◌||◌, List, ◌++◌, length, Option, Some, None, Result, OnOk, OnErr, IsOkUnless, nat_lt, if◌then◌else◌, Vec, vec_len, vec_capacity}
use Rattle.std.specs.declared.alloc.Global.{Global}
use Rattle.mq_wire.specs.Spellings.{max_two_bytes, max_varint, has_nul}
use Rattle.mq_props.specs.declared.fault.PushFault.{PushFault}
use Rattle.mq_props.specs.declared.fault.PushFault.TheVariants.{NotAllowed, Repeated, Value as BadValue, TooLong, Memory}
use Rattle.mq_props.specs.declared.table.Place.{Place}
use Rattle.mq_props.specs.Table.{Line, row_of, is_listed}
use Rattle.mq_props.specs.Values.{Value, byte_value, two_bytes_value, four_bytes_value, varint_value, text_value, pair_value, binary_value, Property, IsValue, value_spelling, property_spelling, body}
use Rattle.mq_props.specs.Allowed.{is_repeated, in_range, is_wild}
use Rattle.mq_props.specs.Listed.{Listed}

-- A text of the value has the character U+0000.
abbrev pub nul_in : Value → Bool
nul_in (byte_value n) = false
nul_in (two_bytes_value n) = false
nul_in (four_bytes_value n) = false
nul_in (varint_value n) = false
nul_in (text_value t) = has_nul t
nul_in (pair_value name value) = has_nul name || has_nul value
nul_in (binary_value bytes) = false

-- A text of the value, or its binary data, has more bytes than two bytes can count.
abbrev pub is_long : Value → Bool
is_long (byte_value n) = false
is_long (two_bytes_value n) = false
is_long (four_bytes_value n) = false
is_long (varint_value n) = false
is_long (text_value t) = nat_lt max_two_bytes (length t)
is_long (pair_value name value) = nat_lt max_two_bytes (length name) || nat_lt max_two_bytes (length value)
is_long (binary_value bytes) = nat_lt max_two_bytes (length bytes)

-- The value is a number above the largest Variable Byte Integer.
abbrev pub is_large : Value → Bool
is_large (byte_value n) = false
is_large (two_bytes_value n) = false
is_large (four_bytes_value n) = false
is_large (varint_value n) = nat_lt max_varint n
is_large (text_value t) = false
is_large (pair_value name value) = false
is_large (binary_value bytes) = false

-- In the place's list, a property of the line may not have the value.
abbrev pub is_bad : Place → Line → Value → Bool
is_bad place line value = not (in_range line.range value) || (is_wild place line.id value || (nul_in value || is_large value))

-- With the property, the list would have more bytes than its length can count.
abbrev pub overflows : List Property → Property → Bool
overflows ps p = nat_lt max_varint (length (body ps) + length (property_spelling p))

-- Why a property of this line with this value can't be appended, if so: the lowest of the first four reasons that applies.
abbrev pub push_fault_by_line : Listed → Value → Option Line → Option PushFault
push_fault_by_line list value None = Some NotAllowed
push_fault_by_line list value (Some line) =
    if not (is_listed list.place line) then Some NotAllowed
    else if is_repeated list.place list.items line.id then Some Repeated
    else if is_bad list.place line value then Some BadValue
    else if is_long value || overflows list.items (record { id = line.id; value = value }) then Some TooLong
    else None

-- Why the property can't be appended, if so.
abbrev pub push_fault : Listed → Property → Option PushFault
push_fault list p = push_fault_by_line list p.value (row_of p.id)

-- The call appends the spelling of a value of its type; or it appends nothing, because the vector has no room and couldn't grow.
pub record AppendsValue (v : Value) (result : Result (Unit {0}) PushFault) (old new : Vec ℕ Global) : Type 0 where
  pub ok : OnOk result (new.items ≡ old.items ++ value_spelling v)
  pub valid : OnOk result (IsValue v)
  pub err : OnErr result (new.items ≡ old.items)
  pub memory : IsOkUnless result Memory
  pub room : OnErr result (vec_capacity old < vec_len old + length (value_spelling v))
  pub capacity : vec_capacity old ≤ vec_capacity new

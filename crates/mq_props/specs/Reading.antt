-- A property list read from left to right, with its first invalid field (MQTT 5.0, 2.2.2).
use Rattle.std.specs.Prelude.{◌≡◌, ℕ, zero, suc, List, [], ◌∷◌, ◌++◌, length, take, Option, Some, None, Result, Ok, Err, nat_lt, ◌==◌, if◌then◌else◌}
use Rattle.std.specs.Option.{option_map_or}
use Rattle.mq_wire.specs.declared.fault.Reason.TheVariants.{Short}
use Rattle.mq_wire.specs.declared.fault.WireFault.{WireFault}
use Rattle.mq_wire.specs.Left.{Left, placed, past}
use Rattle.mq_wire.specs.Fields.{byte_at, two_bytes_at, four_bytes_at, varint_at, text_at, binary_at, pair_at, ◌>>=◌}
use Rattle.mq_props.specs.declared.fault.PropFault.{PropFault}
use Rattle.mq_props.specs.declared.fault.PropReason.{PropReason}
use Rattle.mq_props.specs.declared.fault.PropReason.TheVariants.{Wire, Unknown, NotAllowed, Repeated, Value as BadValue, Wildcard}
use Rattle.mq_props.specs.declared.table.Place.{Place}
use Rattle.mq_props.specs.declared.table.ValueType.{ValueType}
use Rattle.mq_props.specs.declared.table.ValueType.TheVariants as types
use Rattle.mq_props.specs.Faults.{wire_fault}
use Rattle.mq_props.specs.Table.{Line, row_of, is_listed}
use Rattle.mq_props.specs.Values.{Value, byte_value, two_bytes_value, four_bytes_value, varint_value, text_value, pair_value, binary_value, Property}
use Rattle.mq_props.specs.Allowed.{is_repeated, in_range, is_wild}

-- A field's fault is one of the list.
abbrev pub from_wire : {A : Type 0} → Result A WireFault → Result A PropFault
from_wire (Ok x) = Ok x
from_wire (Err fault) = Err (wire_fault fault)

-- A result about the field at an offset.
abbrev pub judged_at : {A : Type 0} → ℕ → Result A PropReason → Result A PropFault
judged_at at (Ok x) = Ok x
judged_at at (Err reason) = Err (record { at = at; reason = reason })

-- The value that was read, wrapped by its type.
abbrev pub as_value : {X : Type 0} → (X → Value) → Result (X × Left) WireFault → Result (Value × Left) WireFault
as_value make (Ok x) = Ok (make x.0, x.1)
as_value make (Err fault) = Err fault

-- A value of the type, at the front of what is left.
abbrev pub value_on : ValueType → Left → Result (Value × Left) WireFault
value_on types.Byte left = as_value byte_value (placed left (byte_at left.rest))
value_on types.TwoBytes left = as_value two_bytes_value (placed left (two_bytes_at left.rest))
value_on types.FourBytes left = as_value four_bytes_value (placed left (four_bytes_at left.rest))
value_on types.Varint left = as_value varint_value (placed left (varint_at left.rest))
value_on types.Text left = as_value text_value (placed left (text_at left.rest))
value_on types.Pair left = as_value (λ texts. pair_value texts.0 texts.1) (placed left (pair_at left.rest))
value_on types.Binary left = as_value binary_value (placed left (binary_at left.rest))

-- The line, if a property of it is allowed in the place's list after these.
abbrev pub admitted : Place → List Property → Option Line → Result Line PropReason
admitted place before None = Err Unknown
admitted place before (Some line) =
    if is_listed place line then (if is_repeated place before line.id then Err Repeated else Ok line) else Err NotAllowed

-- The property of a line with this value, if it may have the value there.
abbrev pub valued : Place → Line → Value → Result Property PropReason
valued place line value =
    if in_range line.range value then (if is_wild place line.id value then Err Wildcard else Ok (record { id = line.id; value = value })) else Err BadValue

-- A property at the front of what is left, after these: its identifier is well spelled, known, allowed here and not
-- repeated; then its value is well spelled, in range and without a wildcard that isn't allowed.
unfoldable pub property_on : Place → List Property → Left → Result (Property × Left) PropFault
property_on place before left = do
  id ← from_wire (placed left (varint_at left.rest))
  line ← judged_at left.at (admitted place before (row_of id.0))
  value ← from_wire (value_on line.kind id.1)
  property ← judged_at id.1.at (valued place line value.0)
  Ok (property, value.1)

-- All that is left, as properties after these. Each takes at least one byte, so n bytes have at most n.
abbrev pub properties_within : ℕ → Place → List Property → Left → Result (List Property) PropFault
properties_within zero place before left = Ok before
properties_within (suc n) place before left =
    if length left.rest == 0 then Ok before else (property_on place before left >>= λ x. properties_within n place (before ++ x.0 ∷ []) x.1)

-- All that is left, as properties after these.
unfoldable pub properties_on : Place → List Property → Left → Result (List Property) PropFault
properties_on place before left = properties_within (length left.rest) place before left

-- The bytes that a length counts, or a fault if they aren't all there.
abbrev pub within_length : Left → ℕ → Left → Result Left PropFault
within_length start len left =
    if nat_lt (length left.rest) len then Err (record { at = start.at; reason = Wire Short })
    else Ok (record { at = left.at; rest = take len left.rest })

-- A property list at the front of what is left: its length, and the properties that make up that many bytes.
unfoldable pub list_on : Place → Left → Result (List Property × Left) PropFault
list_on place left = do
  len ← from_wire (placed left (varint_at left.rest))
  inside ← within_length left len.0 len.1
  ps ← properties_on place [] inside
  Ok (ps, past len.1 len.0)

-- The property of a known line whose value was read.
abbrev pub item_valued : Line → Result (Value × Left) WireFault → Option (Property × Left)
item_valued line (Ok value) = Some (record { id = line.id; value = value.0 }, value.1)
item_valued line (Err fault) = None

-- The property whose line was looked up, its value at the front of what is left.
abbrev pub item_known : Option Line → Left → Option (Property × Left)
item_known None left = None
item_known (Some line) left = item_valued line (value_on line.kind left)

-- The property whose identifier was read.
abbrev pub item_named : Result (ℕ × Left) WireFault → Option (Property × Left)
item_named (Ok id) = item_known (row_of id.0) id.1
item_named (Err fault) = None

-- A property of any list at the front of what is left, if there is one.
unfoldable pub item_on : Left → Option (Property × Left)
item_on left = item_named (placed left (varint_at left.rest))

-- The properties one after another at the front of what is left, as far as they go. Each takes at least one byte,
-- so n bytes have at most n.
abbrev pub items_within : ℕ → Left → List Property
items_within zero left = []
items_within (suc n) left = option_map_or (λ x. x.0 ∷ items_within n x.1) (item_on left) []

-- The same, for all that is left.
unfoldable pub items_on : Left → List Property
items_on left = items_within (length left.rest) left

-- The properties that the bytes of a list spell.
unfoldable pub items_of : List ℕ → List Property
items_of bytes = items_on (record { at = 0; rest = bytes })

-- The call returns what was read: its value, and the cursor is past it; or its fault.
abbrev pub ReadsFront : {X Y : Type 0} → (X → Y) → Result X PropFault → Result (Y × Left) PropFault → Left → Type 0
ReadsFront view (Ok x) read new = read ≡ Ok (view x, new)
ReadsFront view (Err fault) read new = read ≡ Err fault

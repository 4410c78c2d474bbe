-- The first invalid field of a property (MQTT 5.0, 2.2.2.2), independent of any way of reading.
use Rattle.std.specs.Prelude.{◌≡◌, ℕ, ◌+◌, ◌⊎◌, true, false, List, ◌++◌, length, None, Some}
use Rattle.mq_wire.specs.declared.fault.Reason.{Reason}
use Rattle.mq_wire.specs.Left.{Left}
use Rattle.mq_wire.specs.FieldTypes.{FieldType, one_byte, two_byte_integer, four_byte_integer, variable_byte_integer, utf8_string, string_pair, binary_data}
use Rattle.mq_wire.specs.Misspelled.{Misspelled}
use Rattle.mq_wire.specs.Spellings.{IsVarint, varint_spelling}
use Rattle.mq_props.specs.declared.fault.PropFault.{PropFault}
use Rattle.mq_props.specs.declared.fault.PropReason.TheVariants.{Wire, Unknown, NotAllowed, Repeated, Value as BadValue, Wildcard}
use Rattle.mq_props.specs.declared.table.Place.{Place}
use Rattle.mq_props.specs.declared.table.ValueType.{ValueType}
use Rattle.mq_props.specs.declared.table.ValueType.TheVariants as types
use Rattle.mq_props.specs.Table.{Line, row_of, is_listed}
use Rattle.mq_props.specs.Values.{Value, Property, value_type, IsValue, value_spelling}
use Rattle.mq_props.specs.Allowed.{is_repeated, in_range, is_wild}

-- What is left begins with a Variable Byte Integer, after which this is left.
pub record Numbered (left : Left) (number : ℕ) (following : Left) : Type 0 where
  pub is_number : IsVarint number
  pub spelled : left.rest ≡ varint_spelling number ++ following.rest
  pub place : following.at ≡ left.at + length (varint_spelling number)

-- The integer is the identifier of a line of the table.
pub record NamedBy (left : Left) (line : Line) (following : Left) : Type 0 where
  pub named : Numbered left line.id following
  pub known : row_of line.id ≡ Some line

-- It is, and a property of the line is allowed in the place's list after these.
pub record Begins (place : Place) (before : List Property) (left : Left) (line : Line) (following : Left) : Type 0 where
  pub named : NamedBy left line following
  pub listed : is_listed place line ≡ true
  pub once : is_repeated place before line.id ≡ false

-- What is left begins with a value of the type.
pub record IsValued (kind : ValueType) (left : Left) (value : Value) : Type 0 where
  pub typed : value_type value ≡ kind
  pub valid : IsValue value
  pub rest : List ℕ
  pub spelled : left.rest ≡ value_spelling value ++ rest

-- The type of field (1.5) of a type of value.
abbrev pub field_type : ValueType → FieldType
field_type types.Byte = one_byte
field_type types.TwoBytes = two_byte_integer
field_type types.FourBytes = four_byte_integer
field_type types.Varint = variable_byte_integer
field_type types.Text = utf8_string
field_type types.Pair = string_pair
field_type types.Binary = binary_data

-- The identifier is misspelled.
pub record BadIdentifier (left : Left) (fault : PropFault) : Type 0 where
  pub reason : Reason
  pub misspelled : Misspelled variable_byte_integer left.rest reason
  pub is : fault ≡ record { at = left.at; reason = Wire reason }

-- No property has the identifier.
pub record UnknownProperty (left : Left) (fault : PropFault) : Type 0 where
  pub id : ℕ
  pub following : Left
  pub named : Numbered left id following
  pub unknown : row_of id ≡ None
  pub is : fault ≡ record { at = left.at; reason = Unknown }

-- The property isn't allowed in the place's list.
pub record UnlistedProperty (place : Place) (left : Left) (fault : PropFault) : Type 0 where
  pub line : Line
  pub following : Left
  pub named : NamedBy left line following
  pub unlisted : is_listed place line ≡ false
  pub is : fault ≡ record { at = left.at; reason = NotAllowed }

-- It is allowed there, but is among these already, and may be there only once.
pub record RepeatedProperty (place : Place) (before : List Property) (left : Left) (fault : PropFault) : Type 0 where
  pub line : Line
  pub following : Left
  pub named : NamedBy left line following
  pub listed : is_listed place line ≡ true
  pub again : is_repeated place before line.id ≡ true
  pub is : fault ≡ record { at = left.at; reason = Repeated }

-- The property is allowed there, and its value is misspelled.
pub record MisspelledValue (place : Place) (before : List Property) (left : Left) (fault : PropFault) : Type 0 where
  pub line : Line
  pub following : Left
  pub begins : Begins place before left line following
  pub reason : Reason
  pub misspelled : Misspelled (field_type line.kind) following.rest reason
  pub is : fault ≡ record { at = following.at; reason = Wire reason }

-- The value is well spelled, and out of its range.
pub record ValueOutOfRange (place : Place) (before : List Property) (left : Left) (fault : PropFault) : Type 0 where
  pub line : Line
  pub following : Left
  pub begins : Begins place before left line following
  pub value : Value
  pub valued : IsValued line.kind following value
  pub out : in_range line.range value ≡ false
  pub is : fault ≡ record { at = following.at; reason = BadValue }

-- The value is in its range, and is a Response Topic of a PUBLISH with a wildcard.
pub record WildValue (place : Place) (before : List Property) (left : Left) (fault : PropFault) : Type 0 where
  pub line : Line
  pub following : Left
  pub begins : Begins place before left line following
  pub value : Value
  pub valued : IsValued line.kind following value
  pub ranged : in_range line.range value ≡ true
  pub wild : is_wild place line.id value ≡ true
  pub is : fault ≡ record { at = following.at; reason = Wildcard }

-- The fault is that of the identifier at the front of what is left, in the place's list after these properties.
abbrev pub BreaksIdentifier : Place → List Property → Left → PropFault → Type 0
BreaksIdentifier place before left fault = BadIdentifier left fault ⊎ (UnknownProperty left fault ⊎ (UnlistedProperty place left fault ⊎ RepeatedProperty place before left fault))

-- The fault is that of the value after an identifier that is allowed there.
abbrev pub BreaksValue : Place → List Property → Left → PropFault → Type 0
BreaksValue place before left fault = MisspelledValue place before left fault ⊎ (ValueOutOfRange place before left fault ⊎ WildValue place before left fault)

-- The fault is that of the property's first invalid field.
abbrev pub BreaksProperty : Place → List Property → Left → PropFault → Type 0
BreaksProperty place before left fault = BreaksIdentifier place before left fault ⊎ BreaksValue place before left fault

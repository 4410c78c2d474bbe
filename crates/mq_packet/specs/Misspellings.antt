-- Which bytes don't begin with a field of a kind, and which rule they break (MQTT 5.0, 1.5 and 2.2.2). It is independent of any
-- way of reading.
use Rattle.std.specs.Prelude.{◌≡◌, ℕ, List}
use Rattle.mq_wire.specs.declared.fault.Reason.{Reason}
use Rattle.mq_wire.specs.FieldTypes.{FieldType, one_byte, two_byte_integer, utf8_string, binary_data}
use Rattle.mq_wire.specs.Misspelled.{Misspelled}
use Rattle.mq_props.specs.declared.fault.PropFault.{PropFault}
use Rattle.mq_props.specs.declared.table.Place.{Place}
use Rattle.mq_props.specs.Breaks.{BreaksList}
use Rattle.mq_packet.specs.declared.fault.DecodeFault.{DecodeFault}
use Rattle.mq_packet.specs.Formats.{Kind, byte, two_bytes, text, binary, properties}
use Rattle.mq_packet.specs.Decoding.{broken, rule_of, list_rule}

-- The bytes, the first of which has this offset, don't begin with a value of the type, and have this fault.
pub record MisspelledField (type : FieldType) (at : ℕ) (bytes : List ℕ) (fault : DecodeFault) : Type 0 where
  pub reason : Reason
  pub misspelled : Misspelled type bytes reason
  pub is : fault ≡ broken at (rule_of reason)

-- They don't begin with a property list of the place, and have this fault, of the list's first invalid field.
pub record BrokenList (place : Place) (at : ℕ) (bytes : List ℕ) (fault : DecodeFault) : Type 0 where
  pub first : PropFault
  pub breaks : BreaksList place (record { at = at; rest = bytes }) first
  pub is : fault ≡ broken first.at (list_rule first.reason)

-- The bytes, the first of which has this offset, don't begin with a field of this kind, and have this fault.
abbrev pub MisspelledAs : Kind → ℕ → List ℕ → DecodeFault → Type 0
MisspelledAs byte at bytes fault = MisspelledField one_byte at bytes fault
MisspelledAs two_bytes at bytes fault = MisspelledField two_byte_integer at bytes fault
MisspelledAs text at bytes fault = MisspelledField utf8_string at bytes fault
MisspelledAs binary at bytes fault = MisspelledField binary_data at bytes fault
MisspelledAs (properties place) at bytes fault = BrokenList place at bytes fault

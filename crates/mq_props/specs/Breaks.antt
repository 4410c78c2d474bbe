-- The first invalid field of a property list (MQTT 5.0, 2.2.2), independent of any way of reading.
use Rattle.std.specs.Prelude.{◌≡◌, ℕ, ◌+◌, ◌<◌, ◌⊎◌, List, ◌++◌, length}
use Rattle.mq_wire.specs.declared.fault.Reason.{Reason}
use Rattle.mq_wire.specs.declared.fault.Reason.TheVariants.{Short}
use Rattle.mq_wire.specs.FieldTypes.{variable_byte_integer}
use Rattle.mq_wire.specs.Left.{Left}
use Rattle.mq_wire.specs.Misspelled.{Misspelled}
use Rattle.mq_props.specs.declared.fault.PropFault.{PropFault}
use Rattle.mq_props.specs.declared.fault.PropReason.TheVariants.{Wire}
use Rattle.mq_props.specs.declared.table.Place.{Place}
use Rattle.mq_props.specs.Values.{Property, body}
use Rattle.mq_props.specs.Allowed.{AreAllowed}
use Rattle.mq_props.specs.BadFields.{Numbered, BreaksProperty}

-- The length is misspelled.
pub record BadLength (left : Left) (fault : PropFault) : Type 0 where
  pub reason : Reason
  pub misspelled : Misspelled variable_byte_integer left.rest reason
  pub is : fault ≡ record { at = left.at; reason = Wire reason }

-- The length is well spelled, and fewer bytes than it says are left after it.
pub record LongLength (left : Left) (fault : PropFault) : Type 0 where
  pub len : ℕ
  pub inside : Left
  pub numbered : Numbered left len inside
  pub passes : length inside.rest < len
  pub is : fault ≡ record { at = left.at; reason = Wire Short }

-- The length is well spelled. The bytes that it counts begin with valid properties of the place's list, maybe none; other
-- bytes follow, at least one, and the property at their front has an invalid field.
pub record BadProperty (place : Place) (left : Left) (fault : PropFault) : Type 0 where
  pub good : List Property
  pub others : List ℕ
  pub rest : List ℕ
  pub inside : Left
  pub numbered : Numbered left (length (body good ++ others)) inside
  pub parts : inside.rest ≡ (body good ++ others) ++ rest
  pub allowed : AreAllowed place good
  pub some : 0 < length others
  pub refused : BreaksProperty place good (record { at = inside.at + length (body good); rest = others }) fault

-- The fault is the first one of the list at the front of what is left.
abbrev pub BreaksList : Place → Left → PropFault → Type 0
BreaksList place left fault = BadLength left fault ⊎ (LongLength left fault ⊎ BadProperty place left fault)

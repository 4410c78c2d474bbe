-- A property that is read in a quick way: in the usual form, in a PUBLISH.
use Rattle.std.specs.Prelude.{◌≡◌, ℕ, true, false, List, [], ◌∷◌, ◌++◌, Some, Ok, Err}
use Rattle.mq_wire.specs.Left.{Left}
use Rattle.mq_props.specs.declared.facts.Facts.{Facts}
use Rattle.mq_props.specs.declared.fault.PropFault.{PropFault}
use Rattle.mq_props.specs.declared.table.Place.{Place}
use Rattle.mq_props.specs.declared.table.Place.TheVariants.{Publish}
use Rattle.mq_props.specs.Table.{Line, row_of, is_listed}
use Rattle.mq_props.specs.Values.{Value, Property}
use Rattle.mq_props.specs.Allowed.{is_repeated, in_range, is_wild}
use Rattle.mq_props.specs.Reading.{value_on, property_on}
use Rattle.mq_props.specs.Views.{Knows}

-- A value that the property may have in a PUBLISH is at the front of what is left.
pub record HasValue (id : ℕ) (left new : Left) : Type 0 where
  pub line : Line
  pub value : Value
  pub known : row_of id ≡ Some line
  pub listed : is_listed Publish line ≡ true
  pub read : value_on line.kind left ≡ Ok (value, new)
  pub ranged : in_range line.range value ≡ true
  pub plain : is_wild Publish id value ≡ false

-- It is, and a property with it may follow any with these facts; these are the facts with it.
pub record Follows (facts : Facts) (id : ℕ) (left : Left) (later : Facts) (new : Left) : Type 0 where
  pub has : HasValue id left new
  pub once : (before : List Property) → Knows facts before → is_repeated Publish before id ≡ false
  pub knows : (before : List Property) → Knows facts before → Knows later (before ++ record { id = id; value = has.value } ∷ [])

-- After properties with these facts, one more is read at the front of what is left; these are the facts with it.
abbrev pub ReadsMore : Place → Facts → Left → Facts → Left → Type 0
ReadsMore place facts left later new = (before : List Property) → Knows facts before → (p : Property) × (property_on place before left ≡ Ok (p, new)) × Knows later (before ++ p ∷ [])

-- The first invalid field of the property there, after properties with these facts.
abbrev pub RefusesMore : Place → Facts → Left → PropFault → Type 0
RefusesMore place facts left fault = (before : List Property) → Knows facts before → property_on place before left ≡ Err fault

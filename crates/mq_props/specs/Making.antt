-- A property list that is built property by property.
use Rattle.std.specs.Prelude.{ℕ, List}
use Rattle.mq_props.specs.declared.table.Place.{Place}
use Rattle.mq_props.specs.declared.facts.Facts.{Facts}
use Rattle.mq_props.specs.Listed.{Listed, IsList}
use Rattle.mq_props.specs.Views.{Knows}

-- The list, and how many more bytes fit without another allocation.
pub record Made : Type 0 where
  pub list : Listed
  pub spare : ℕ

-- The bytes spell a list for the place, and the facts are those of its properties.
pub record HoldsList (place : Place) (facts : Facts) (bytes : List ℕ) : Type 0 where
  pub is_list : IsList place bytes
  pub knows : Knows facts is_list.properties

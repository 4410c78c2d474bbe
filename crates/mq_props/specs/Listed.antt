-- A property list as its callers see it.
use Rattle.std.specs.Prelude.{◌≡◌, ℕ, List, length}
use Rattle.mq_wire.specs.Spellings.{IsVarint}
use Rattle.mq_props.specs.declared.table.Place.{Place}
use Rattle.mq_props.specs.Values.{Property, body}
use Rattle.mq_props.specs.Allowed.{AreAllowed}

-- A list of properties, and the place that it is for.
pub record Listed : Type 0 where
  pub place : Place
  pub items : List Property

-- The bytes spell a valid list for the place, and are no more than a length can count.
pub record IsList (place : Place) (bytes : List ℕ) : Type 0 where
  pub properties : List Property
  pub allowed : AreAllowed place properties
  pub spelled : bytes ≡ body properties
  pub bound : IsVarint (length bytes)

-- The source's values as the definitions see them.
use Rattle.std.specs.Prelude.{◌≡◌, ℕ, List, cond}
use Rattle.std.specs.Int.{bit_at}
use Rattle.mq_props.specs.declared.value.Value.{Value as Held}
use Rattle.mq_props.specs.declared.value.Value.TheVariants as held
use Rattle.mq_props.specs.declared.value.Item.{Item}
use Rattle.mq_props.specs.declared.facts.Facts.{Facts}
use Rattle.mq_props.specs.declared.seen.Seen.{Seen}
use Rattle.mq_props.specs.Values.{Value, byte_value, two_bytes_value, four_bytes_value, varint_value, text_value, pair_value, binary_value, Property}
use Rattle.mq_props.specs.Identifiers.{topic_alias}
use Rattle.mq_props.specs.Allowed.{occurs_in}
use Rattle.mq_props.specs.First.{first_two_bytes}

-- A value, apart from where its bytes are in memory.
abbrev pub value_view : Held → Value
value_view (held.Byte n) = byte_value n
value_view (held.TwoBytes n) = two_bytes_value n
value_view (held.FourBytes n) = four_bytes_value n
value_view (held.Varint n) = varint_value n
value_view (held.Text t) = text_value t.now
value_view (held.Pair name value) = pair_value name.now value.now
value_view (held.Binary bytes) = binary_value bytes.now

-- A property likewise.
abbrev pub item_view : Item → Property
item_view item = record { id = item.id; value = value_view item.value }

-- The identifiers that were seen are those of the properties.
pub record Sees (seen : Seen) (ps : List Property) : Type 0 where
  pub same : (id : ℕ) → bit_at seen.bits id ≡ cond (occurs_in id ps) 1 0

-- The facts are those of the properties.
pub record Knows (facts : Facts) (ps : List Property) : Type 0 where
  pub sees : Sees facts.seen ps
  pub alias : facts.topic_alias ≡ first_two_bytes topic_alias ps

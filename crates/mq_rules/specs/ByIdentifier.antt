-- What a table keeps under Packet Identifiers (MQTT 5.0, section 2.2.1).
use Rattle.std.specs.Prelude.{ℕ, ◌/◌, ◌%◌, ◌<◌, Bool, List, [], length, get_or, Option, None, is_some}
use Rattle.mq_rules.specs.declared.by_identifier.Page.{Page}
use Rattle.mq_rules.specs.declared.by_identifier.ByIdentifier.{ByIdentifier}

module _ {T : Type 0} where
  -- the values of the page with this number, by their places in it: none if there is no such page
  abbrev pub page_at : List (Page T) → ℕ → List (Option T)
  page_at pages page = get_or pages page []

  -- the value at a place of a page: nothing if there is no such place
  abbrev pub value_at : List (Page T) → ℕ → ℕ → Option T
  value_at pages page slot = get_or (page_at pages page) slot None

  -- the page with this number has this place
  abbrev pub HasPlace : List (Page T) → ℕ → ℕ → Type 0
  HasPlace pages page slot = slot < length (page_at pages page)

  -- the value that is kept under an identifier, if one is
  unfoldable pub kept : ByIdentifier T → ℕ → Option T
  kept table i = value_at table.pages.items (i / 256) (i % 256)

  -- whether one is
  abbrev pub is_kept : ByIdentifier T → ℕ → Bool
  is_kept table i = is_some (kept table i)

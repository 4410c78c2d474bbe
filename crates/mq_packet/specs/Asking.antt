-- The filters in the body of a SUBSCRIBE or UNSUBSCRIBE (MQTT 5.0, 3.8.3 and 3.10.3).
use Rattle.std.specs.Prelude.{◌≡◌, ◌≢◌, ℕ, Bool, true, false, List, [], ◌∷◌, ◌++◌, Option, Some, None}
use Rattle.std.specs.List.{flat_map, AllByRecursion}
use Rattle.mq_wire.specs.Spellings.{IsByte, IsText, text_spelling}
use Rattle.mq_packet.specs.Entries.{AskedFilter}
use Rattle.mq_packet.specs.Formats.{is_filter, are_options}

-- The options of a filter are a valid byte of options, if options are asked for, and else there are none.
abbrev pub AreOptions : Bool → Option ℕ → Type 0
AreOptions false options = options ≡ None
AreOptions true options = (byte : ℕ) × (options ≡ Some byte) × IsByte byte × (are_options byte ≡ true)

-- A filter that is valid in such a body.
pub record IsAsked (asks : Bool) (asked : AskedFilter) : Type 0 where
  pub text : IsText asked.filter
  pub filter : is_filter asked.filter ≡ true
  pub options : AreOptions asks asked.options

-- A filter is spelled as its text, and then its options.
abbrev pub options_spelling : Option ℕ → List ℕ
options_spelling None = []
options_spelling (Some options) = options ∷ []

abbrev pub asked_spelling : AskedFilter → List ℕ
asked_spelling asked = text_spelling asked.filter ++ options_spelling asked.options

-- The filters of a body are spelled one after another.
abbrev pub filters_spelling : List AskedFilter → List ℕ
filters_spelling filters = flat_map asked_spelling filters

-- The filters are valid in such a body: there is at least one, and each is valid.
pub record AreAsked (asks : Bool) (filters : List AskedFilter) : Type 0 where
  pub some : filters ≢ []
  pub each : AllByRecursion (IsAsked asks) filters

-- The bytes are the spellings of filters, one after another, each valid in such a body. There may be none.
pub record AreListed (asks : Bool) (bytes : List ℕ) : Type 0 where
  pub filters : List AskedFilter
  pub each : AllByRecursion (IsAsked asks) filters
  pub spelled : bytes ≡ filters_spelling filters

-- The bytes are the spellings of filters that are valid in such a body, one after another.
pub record AreFilters (asks : Bool) (bytes : List ℕ) : Type 0 where
  pub filters : List AskedFilter
  pub asked : AreAsked asks filters
  pub spelled : bytes ≡ filters_spelling filters

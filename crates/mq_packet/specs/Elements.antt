-- The filters of a body in memory: which list they are, the next of them, and what their reader returns (MQTT 5.0, 3.8.3 and
-- 3.10.3).
use Rattle.std.specs.Prelude.{◌≡◌, ℕ, Bool, true, false, List, [], ◌∷◌, length, drop, Option, Some, None, Result, Ok, Err}
use Rattle.mq_wire.specs.declared.fault.Reason.{Reason}
use Rattle.mq_wire.specs.Fields.{text_at}
use Rattle.mq_wire.specs.Left.{Left}
use Rattle.mq_packet.specs.declared.fault.DecodeFault.{DecodeFault}
use Rattle.mq_packet.specs.declared.filters.Filter.{Filter}
use Rattle.mq_packet.specs.Entries.{AskedFilter}
use Rattle.mq_packet.specs.Decoding.{filters_within, filters_on}
use Rattle.mq_packet.specs.Asking.{AreFilters}

-- A filter in memory.
abbrev pub filter_view : Filter → AskedFilter
filter_view f = record { filter = f.filter.now; options = f.options }

-- The filter with this text, and what is left after it.
abbrev pub asked_with : Bool → List ℕ → List ℕ → Option (AskedFilter × List ℕ)
asked_with false filter left = Some (record { filter = filter; options = None }, left)
asked_with true filter [] = None
asked_with true filter (options ∷ left) = Some (record { filter = filter; options = Some options }, left)

abbrev pub asked_after : Bool → List ℕ → Result (List ℕ × ℕ) Reason → Option (AskedFilter × List ℕ)
asked_after asks bytes (Ok x) = asked_with asks x.0 (drop x.1 bytes)
asked_after asks bytes (Err reason) = None

-- The filter at the front of the bytes, if there is one, and what is left after it.
unfoldable pub asked_at : Bool → List ℕ → Option (AskedFilter × List ℕ)
asked_at asks bytes = asked_after asks bytes (text_at bytes)

-- The filters that are read, or none.
abbrev pub read_or_none : Result (List AskedFilter) DecodeFault → List AskedFilter
read_or_none (Ok filters) = filters
read_or_none (Err fault) = []

-- The filters of these bytes in memory, as the list that is read.
unfoldable pub filters_in : Bool → List ℕ → List AskedFilter
filters_in asks bytes = read_or_none (filters_within (length bytes) asks (record { at = 0; rest = bytes }))

-- All that is left are the filters of a body, and they are what is read.
pub record AreRead (asks : Bool) (left : Left) : Type 0 where
  pub filters : AreFilters asks left.rest
  pub reads : filters_on asks left ≡ Ok (filters_in asks left.rest)

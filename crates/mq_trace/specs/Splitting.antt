-- What stays the same of a log's events if its records are cut differently.
use Rattle.std.specs.Prelude.{ℕ}
use Rattle.mq_log.specs.Events.{Event, Placed}

-- an event, its position and its moment, without the number of its record
abbrev pub but_record : Placed → ℕ × ℕ × Event
but_record placed = (placed.place.position, placed.place.moment, placed.event)

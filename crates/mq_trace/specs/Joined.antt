-- The events of a log, one connection and one direction at a time: they are the items of that direction's stream of packets.
use Rattle.std.specs.Prelude.{ℕ, ◌+◌, ◌==◌, cond, List, [], ◌∷◌, ◌++◌, drop, Option, Some, None}
use Rattle.mq_log.specs.declared.kind.Direction.{Direction}
use Rattle.mq_log.specs.declared.kind.Direction.TheVariants as directions
use Rattle.mq_packet.specs.Stream.{is_lost}
use Rattle.mq_log.specs.Pieces.{Pieces}
use Rattle.mq_log.specs.Framing.{kind_of, direction_of, opens, if_direction}
use Rattle.mq_log.specs.Events.{Item, Event, Placed, lost, sent, received, item_read, read_frame}
use Rattle.mq_log.specs.Connections.{begins_connection}

-- how many of these records are OPENs; that many connections have begun
abbrev pub opened_records : List (List ℕ) → ℕ
opened_records [] = 0
opened_records (part ∷ before) = cond (opens (kind_of part)) (opened_records before + 1) (opened_records before)

-- What one direction of the connection of this number carried, given the length of a record's head: the joined bodies of its
-- records. Connections are numbered from 1, and what comes before the first OPEN is on connection 0. The newest record comes first.
abbrev pub joined : ℕ → ℕ → Direction → List (List ℕ) → List ℕ
joined ahead number direction [] = []
joined ahead number direction (part ∷ before) =
    joined ahead number direction before ++ cond (opened_records (part ∷ before) == number) (if_direction direction (direction_of (kind_of part)) (drop ahead part)) []

-- the item, if there is one
abbrev pub if_some : Option Item → List Item
if_some None = []
if_some (Some item) = item ∷ []

-- what a frame is
abbrev pub frame_item : List ℕ → Option Item
frame_item frame = item_read frame (read_frame frame)

-- the items of frames, in order; a CONNECT of another protocol version doesn't count as one
abbrev pub frame_items : List (List ℕ) → List Item
frame_items [] = []
frame_items (frame ∷ frames) = if_some (frame_item frame) ++ frame_items frames

-- The items of a stream: those of its frames, in order, and at the end `lost`, if the rest can't be parsed (MQTT 5.0, sections 2.1 and 1.5.5).
abbrev pub stream_items : Pieces → List Item
stream_items cut = frame_items cut.whole ++ cond (is_lost cut.rest) (lost ∷ []) []

-- how many of these events begin a connection
abbrev pub opened_events : List Placed → ℕ
opened_events [] = 0
opened_events (e ∷ past) = cond (begins_connection e.event) (opened_events past + 1) (opened_events past)

-- the item of an event, if it is in this direction
abbrev pub directed_item : Direction → Event → Option Item
directed_item directions.Sent (sent item) = Some item
directed_item directions.Recv (received item) = Some item
directed_item _ _ = None

-- the items of the events of one direction of the connection of this number, in order; the newest event comes first
abbrev pub connection_items : ℕ → Direction → List Placed → List Item
connection_items number direction [] = []
connection_items number direction (e ∷ past) = connection_items number direction past ++ cond (opened_events (e ∷ past) == number) (if_some (directed_item direction e.event)) []

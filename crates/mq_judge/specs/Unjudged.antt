-- What in a log isn't judged. The list of events has the newest one first.
use Rattle.std.specs.Prelude.{ℕ, Bool, true, false, ◌&&◌, not, List, [], ◌∷◌, ◌++◌, length, map, Option, Some, None, is_none, option_map}
use Rattle.std.specs.Option.{option_or}
use Rattle.mq_log.specs.declared.kind.Direction.{Direction}
use Rattle.mq_log.specs.declared.kind.Direction.TheVariants as directions
use Rattle.mq_log.specs.declared.place.Place3.{Place3}
use Rattle.mq_log.specs.Events.{UnfinishedPackets, Event, Placed, closed, events}
use Rattle.mq_trace.specs.Tracing.{left_at_end}
use Rattle.mq_rules.specs.declared.fate.Fate.{Fate}
use Rattle.mq_rules.specs.declared.fate.Fate.TheVariants.{Unknown}
use Rattle.mq_rules.specs.declared.note.ItemNote.{ItemNote}
use Rattle.mq_rules.specs.declared.note.ItemNote.TheVariants as items
use Rattle.mq_rules.specs.declared.note.Note.{Note}
use Rattle.mq_rules.specs.declared.note.Note.TheVariants as notes
use Rattle.mq_rules.specs.declared.note.Seen.{Seen}
use Rattle.mq_rules.specs.declared.role.Role.{Role}
use Rattle.mq_rules.specs.declared.role.Role.TheVariants.{Client, Server}
use Rattle.mq_rules.specs.declared.role.Further.{Further}
use Rattle.mq_rules.specs.declared.role.Tested.{Tested}
use Rattle.mq_rules.specs.Words.{only, is_some_and}
use Rattle.mq_rules.specs.Notes.{is_open, tested_by, seen}
use Rattle.mq_rules.specs.Moments.{Moment, newest, note, moments, some, latest, first_given}
use Rattle.mq_rules.specs.Connections.{latest_fate, is_binding}
use Rattle.mq_rules.specs.Subscriptions.{asks_to_share}
use Rattle.mq_report.specs.declared.report.unjudged.Gap.{Gap}
use Rattle.mq_report.specs.declared.report.unjudged.Gap.TheVariants.{Lost, UnknownSession, Unfinished, UndecidedSession, Shared, NoRest, NoReleases}

-- where an event is
abbrev pub place : Moment → Place3
place m = m.event.place

-- ---- what an event shows

-- its direction is given up with it: the bytes can't be cut into packets from there on (MQTT 5.0, section 2.1.4)
abbrev pub is_lost : ItemNote → Bool
is_lost items.Lost = true
is_lost _ = false

abbrev pub lost_at : Place3 → Note → Option Gap
lost_at at (notes.Sent item) = only (is_lost item) (Some (Lost directions.Sent at))
lost_at at (notes.Recv item) = only (is_lost item) (Some (Lost directions.Recv at))
lost_at at _ = None

-- the connection is accepted, and the log can't tell which session it has
abbrev pub is_unknown : Fate → Bool
is_unknown Unknown = true
is_unknown _ = false

-- With this event the server resumes a session that the log can't tell: the latest connection was undecided before it, and is Unknown after it.
abbrev pub turns_unknown : Role → Moment → Bool
turns_unknown role m = is_none (latest_fate role m.past) && is_some_and is_unknown (latest_fate role (m.event ∷ m.past))

-- what isn't judged from this event on: a direction that is given up, or a session that can't be told
abbrev pub shown_at : Role → Moment → Option Gap
shown_at role m = option_or (lost_at (place m) (note m)) (only (turns_unknown role m) (Some (UnknownSession (place m))))

-- with one more at the end, if there is one
abbrev pub with_last : List Gap → Option Gap → List Gap
with_last gaps None = gaps
with_last gaps (Some gap) = gaps ++ gap ∷ []

-- what the events show, in the order of the log
abbrev pub shown_in : Role → List Seen → List Gap
shown_in role [] = []
shown_in role (e ∷ past) = with_last (shown_in role past) (shown_at role (newest e past))

-- ---- packets that never were whole

-- The packet of which a direction has begun these bytes, if there are any: no later byte completes it, since the CLOSE at that place drops them, or the log's end
-- (MQTT 5.0, section 2.1).
abbrev pub unfinished_of : Direction → Option Place3 → List ℕ → Option Gap
unfinished_of direction at [] = None
unfinished_of direction at (first ∷ others) = Some (Unfinished direction (record { first = first; bytes = length (first ∷ others) }) at)

-- with those of both directions at the end
abbrev pub with_unfinished : List Gap → Option Place3 → UnfinishedPackets → List Gap
with_unfinished gaps at packets = with_last (with_last gaps (unfinished_of directions.Sent at packets.sent)) (unfinished_of directions.Recv at packets.received)

-- with what an event drops: a CLOSE what its connection leaves unfinished
abbrev pub with_dropped : List Gap → Place3 → Event → List Gap
with_dropped gaps at (closed packets) = with_unfinished gaps (Some at) packets
with_dropped gaps at _ = gaps

-- what the events drop, in the order of the log
abbrev pub dropped_in : List Placed → List Gap
dropped_in [] = []
dropped_in (p ∷ past) = with_dropped (dropped_in past) p.place p.event

-- ---- what the whole log shows

-- where the latest connection begins
abbrev pub latest_open : List Seen → Option Place3
latest_open past = option_map place (latest (λ m. is_open (note m)) (moments past))

-- The latest connection is undecided: it has no CONNACK and no CLOSE.
abbrev pub undecided_in : Role → List Seen → Option Gap
undecided_in role past = only (is_none (latest_fate role past)) (option_map UndecidedSession (latest_open past))

-- the first SUBSCRIBE that asks for a shared subscription (MQTT 5.0, section 4.8.2)
abbrev pub first_sharing : List Seen → Option Place3
first_sharing past = first_given (λ m. only (asks_to_share m) (Some (place m))) (moments past)

-- it was received by a server
abbrev pub shared_by : Role → Option Place3 → Option Gap
shared_by Client first = None
shared_by Server first = option_map Shared first

abbrev pub shared_in : Role → List Seen → Option Gap
shared_in role past = shared_by role (first_sharing past)

-- no REST binds
abbrev pub unrested_in : Role → List Seen → Option Gap
unrested_in role past = only (not (some (is_binding role) (moments past))) (Some NoRest)

-- the log doesn't record releases
abbrev pub unreleased : Tested → Option Gap
unreleased tested = only (not tested.releases) (Some NoReleases)

-- ---- what is reported

-- with what all these events show together: each if there is such a thing, the connection that is undecided, the first shared subscription, that no REST binds, and that no
-- releases are recorded
abbrev pub with_whole : List Gap → Tested → List Seen → List Gap
with_whole gaps tested past =
    with_last (with_last (with_last (with_last gaps (undecided_in tested.role past)) (shared_in tested.role past)) (unrested_in tested.role past)) (unreleased tested)

-- What isn't judged of these events, if a log that leaves these packets unfinished ends with them: what they show one by one; what they drop, and what the log's end does;
-- and what they show together.
abbrev pub unjudged_among : Tested → List Placed → UnfinishedPackets → List Gap
unjudged_among tested received left =
    with_whole (with_unfinished (shown_in tested.role (map seen received) ++ dropped_in received) None left) tested (map seen received)

-- what isn't judged of a log
unfoldable pub unjudged_of : Further → List ℕ → List Gap
unjudged_of further log = unjudged_among (tested_by further log) (events log) (left_at_end log)

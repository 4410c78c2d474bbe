-- What a judge keeps of the events so far.
use Rattle.std.specs.Prelude.{◌≡◌, ◌+◌, ℕ, Bool, true, List, [], ◌∷◌, length, map}
use Rattle.mq_packet.specs.declared.packet.Packet.TheVariants as packets
use Rattle.mq_packet.specs.declared.packet.Publish.{Publish}
use Rattle.mq_packet.specs.Reading.{view}
use Rattle.mq_log.specs.declared.place.Place3.{Place3}
use Rattle.mq_log.specs.Events.{Event, Placed}
use Rattle.mq_rules.specs.declared.bare.Bare.{Bare}
use Rattle.mq_rules.specs.Parts.{IsTriedAs}
use Rattle.mq_rules.specs.Notes.{seen as seen_of}
use Rattle.mq_watchers.specs.Kinds.{is_counting}
use Rattle.mq_rules.specs.declared.role.Tested.{Tested}
use Rattle.mq_rules.specs.declared.rule.Rule.{Rule}
use Rattle.mq_rules.specs.declared.note.Note.{Note}
use Rattle.mq_rules.specs.declared.note.Seen.{Seen}
use Rattle.mq_rules.specs.Connections.{latest_fate, IsOnConnection}
use Rattle.mq_rules.specs.FaultKeys.{fault_at}
use Rattle.mq_rules.specs.Faults.{fault_in}
use Rattle.mq_rules.specs.Under.{Follows, seen}
use Rattle.mq_watchers.specs.contracts.watchers.WatchersWatch.TheImpl as watchers
use Rattle.mq_judge.specs.Gathering.{Gathers, Tallies}
use Rattle.mq_judge.specs.declared.watching.Watching.{Watching}

-- The faults are those of these events, the newest first, each with where it was decided; and so many events there are.
pub record IsFound (w : Watching) (past : List Seen) : Type 0 where
  pub each : (k : ℕ) (rule : Rule) → fault_at w.faults k rule ≡ fault_in w.tested past k rule
  pub count : w.events ≡ length past

-- how much the watchers keep: the sum of the lengths of all their collections, each as its watcher says
abbrev pub watchers_weigh : Watching → ℕ
watchers_weigh w = (watchers.ghosts).weighs w.watchers

-- The watchers have taken in these events, their faults are found, and what isn't judged of them, if places are counted.
pub record IsWatching (w : Watching) (past : List Seen) : Type 0 where
  pub agree : (watchers.ghosts).agrees w.watchers w.tested (latest_fate w.tested.role past) past
  pub found : IsFound w past
  pub gathered : is_counting w.watchers ≡ true → Gathers w.unjudged w.tested past

-- The event may follow these: each has its place, connections follow one another, and what happens only on an open connection comes where one is open.
pub record MayCome (tested : Tested) (e : Seen) (past : List Seen) : Type 0 where
  pub follows : Follows tested e past
  pub on_connection : IsOnConnection e past

-- The watchers have taken in the event too, if it may follow those that they had taken in.
abbrev pub TakesIn : Watching → Watching → Place3 → Note → Type 0
TakesIn old new place n = (past : List Seen) → MayCome old.tested (seen place n) past → IsWatching old past → IsWatching new (seen place n ∷ past)

-- There was no memory for it, and the faults are those of the events before it.
abbrev pub LeavesOut : Watching → Watching → Place3 → Note → Type 0
LeavesOut old new place n = (past : List Seen) → MayCome old.tested (seen place n) past → IsWatching old past → IsFound new past

-- ---- where places are counted

-- What is kept of these events themselves, the newest first, if places are counted.
abbrev pub IsTallying : Watching → List Placed → Type 0
IsTallying w received = is_counting w.watchers ≡ true → Tallies w.tally w.tested received

-- Nothing was kept of the event itself, and places are counted if they were before.
abbrev pub CountsNothing : Watching → Watching → Type 0
CountsNothing old new = (is_counting new.watchers ≡ is_counting old.watchers) × (new.tally ≡ old.tally)

-- If the PUBLISH has no properties, these numbers put to the test what it does.
abbrev pub IsPublishTriedAs : Bare → Publish → Type 0
IsPublishTriedAs bare publish = publish.properties.items ≡ [] → IsTriedAs bare.size bare.fields (view (packets.Publish publish))

-- What is kept of the events before this one themselves, and then with it.
abbrev pub TalliesNext : Watching → Watching → Place3 → Event → Type 0
TalliesNext old new place event = (p : Placed) (received : List Placed) → p.event ≡ event → place.position ≡ length received + 1 → IsTallying old received → IsTallying new (p ∷ received)

-- These events were taken in as those of this end, and their places are counted, or aren't.
abbrev pub IsJudging : Tested → Bool → Watching → List Placed → Type 0
IsJudging tested counting w received = (w.tested ≡ tested) × IsWatching w (map seen_of received) × (is_counting w.watchers ≡ counting) × IsTallying w received

-- What a reader of a log keeps in memory, and what that means for the log.
use Rattle.std.specs.Prelude.{◌≡◌, ℕ, ◌+◌, ◌-◌, ◌*◌, ◌<◌, ◌≤◌, Bool, true, false, zero, suc, List, [], ◌∷◌, ◌++◌, length, drop, slice_index, Some, None}
use Rattle.mq_log.specs.declared.kind.RecordKind.{RecordKind}
use Rattle.mq_log.specs.declared.kind.RecordKind.TheVariants as kinds
use Rattle.mq_trace.specs.declared.deframer.Deframer.{Deframer}
use Rattle.mq_trace.specs.declared.stage.Stage.{Stage}
use Rattle.mq_trace.specs.declared.stage.Stage.TheVariants as stages
use Rattle.mq_trace.specs.declared.reading.Reading.{Reading}
use Rattle.mq_packet.specs.declared.header.FixedHeader.{FixedHeader}
use Rattle.mq_packet.specs.declared.header.FixedHeader.TheVariants as headers
use Rattle.mq_packet.specs.Stream.{fixed_header_of}
use Rattle.mq_log.specs.Framing.{kind_of, opens, direction_of, body_length, spelled_from, moment_in, length_end, head_length, longest_record}
use Rattle.mq_log.specs.Refusals.{allows_length}
use Rattle.mq_log.specs.Events.{UnfinishedPackets, Placed}
use Rattle.mq_log.specs.Context.{StreamState, Context, so_far_for}
use Rattle.mq_trace.specs.Heads.{IsHead, IsWithinHead}
use Rattle.mq_trace.specs.Runs.{after_bytes, refused_in, events_by}
use Rattle.mq_log.specs.Reception.{AreEvents}
use Rattle.mq_trace.specs.Deframing.{FlowWhy}
use Rattle.mq_log.specs.declared.refusal.Refusal.{Refusal}

-- a direction, apart from where its bytes are in memory
abbrev pub state_in : Deframer → StreamState
state_in d = record { unfinished = d.unfinished.items; lost = d.lost }

-- The unfinished record is this part, and the stage says so, given the length of a record's head, and the moment so far.
abbrev pub IsAt : ℕ → ℕ → Stage → List ℕ → Type 0
IsAt ahead moment stages.Between part = part ≡ []
IsAt ahead moment (stages.Head head) part = IsHead head part
IsAt ahead moment (stages.Moment kind number count) part = (kind_of part ≡ Some kind) × (body_length part ≡ number) × (length part ≡ length_end + count) × (moment ≡ spelled_from 0 (drop length_end part))
IsAt ahead moment (stages.Body direction left) part =
    (kind : RecordKind) × (kind_of part ≡ Some kind) × (direction_of (Some kind) ≡ Some direction) × (ahead ≤ length part) × (length part + left ≡ ahead + body_length part) × (moment_in ahead part ≡ moment)
IsAt ahead moment (stages.Release None) part = (kind_of part ≡ Some kinds.Release) × (length part ≡ ahead) × (body_length part ≡ 2) × (moment_in ahead part ≡ moment)
IsAt ahead moment (stages.Release (Some high)) part = (kind_of part ≡ Some kinds.Release) × (length part ≡ ahead + 1) × (body_length part ≡ 2) × (moment_in ahead part ≡ moment) × (slice_index part ahead ≡ high)

-- this part is the unfinished record of what a reader keeps
abbrev pub StandsAt : Reading → List ℕ → Type 0
StandsAt r part = IsAt (head_length r.header.version) r.moment r.stage part

-- what a reader keeps of a log, if this part is its unfinished record
abbrev pub context_of : Reading → List ℕ → Context
context_of r part = record {
  at = r.at;
  header = r.header;
  part = part;
  records = r.records;
  sent = state_in r.sent;
  recv = state_in r.recv;
  events = r.connections.events;
  connected = r.connections.connected;
  connack_seen = r.connections.connack_seen;
  before_open = r.connections.before_open;
}

-- A bound on how many bytes of the unfinished record came.
abbrev pub begun_in : Stage → ℕ
begun_in stages.Between = 0
begun_in (stages.Head head) = 1 + head.count
begun_in (stages.Body direction left) = longest_record - left
begun_in (stages.Moment kind number count) = length_end + count
begun_in (stages.Release None) = 13
begun_in (stages.Release (Some high)) = 14

-- how many numbers so many bytes can spell
abbrev pub spellings : ℕ → ℕ
spellings zero = 1
spellings (suc count) = spellings count * 256

-- the stage's numbers, and the moment so far, are within their bounds, in this version
abbrev pub IsWithin : ℕ → ℕ → Stage → Type 0
IsWithin version moment stages.Between = Unit {0}
IsWithin version moment (stages.Head head) = IsWithinHead head
IsWithin version moment (stages.Moment kind number count) = (count ≤ 7) × (moment < spellings count) × (head_length version ≡ 13) × (allows_length version (Some kind) number ≡ true)
IsWithin version moment (stages.Body direction left) = (1 ≤ left) × (left ≤ 16777216)
IsWithin version moment (stages.Release first) = Unit {0}

-- it is inside the head of an OPEN
abbrev pub opens_in : Stage → Bool
opens_in (stages.Head head) = opens (Some head.kind)
opens_in (stages.Moment kind number count) = opens (Some kind)
opens_in _ = false

-- A packet whose fixed header is whole isn't larger than the limit, and isn't whole.
abbrev pub IsShort : ℕ → List ℕ → FixedHeader → Type 0
IsShort limit bytes headers.Short = length bytes ≤ 4
IsShort limit bytes headers.Lost = ⊥
IsShort limit bytes (headers.Whole header size) = (length bytes < size) × (size ≤ limit)

-- what is unfinished on the connection
abbrev pub unfinished_by : Reading → UnfinishedPackets
unfinished_by r = record { sent = r.sent.unfinished.items; received = r.recv.unfinished.items }

-- the bytes of an unfinished packet
abbrev pub IsUnfinished : ℕ → StreamState → Type 0
IsUnfinished limit state = IsShort limit state.unfinished (fixed_header_of state.unfinished) × (state.lost ≡ true → state.unfinished ≡ [])

-- What holds of the state that is kept of a log that wasn't refused.
pub record IsSound (r : Reading) : Type 0 where
  pub counted : r.at ≤ 8 + longest_record * r.records + begun_in r.stage
  pub begun : 0 < begun_in r.stage → r.records < 4294967295
  pub within : IsWithin r.header.version r.moment r.stage
  pub past_header : 0 < begun_in r.stage → 8 ≤ r.at
  pub header_first : r.at < 8 → (r.stage ≡ stages.Between) × (r.records ≡ 0)
  pub emptied : opens_in r.stage ≡ true → (state_in r.sent ≡ record { unfinished = []; lost = false }) × (state_in r.recv ≡ record { unfinished = []; lost = false })
  pub sent : IsUnfinished r.limit (state_in r.sent)
  pub recv : IsUnfinished r.limit (state_in r.recv)

-- These bytes bring a reader from one state to another: none of them is refused, and they complete these events, the newest first.
pub record Advances (r r' : Reading) (bytes : List ℕ) (completed : List Placed) : Type 0 where
  pub limit : r'.limit ≡ r.limit
  pub each : (part : List ℕ) → StandsAt r part → (part' : List ℕ) × StandsAt r' part' × (refused_in r.limit (context_of r part) bytes ≡ None)
      × (after_bytes (context_of r part) bytes ≡ context_of r' part') × (events_by (context_of r part) bytes ≡ completed)

-- These bytes bring a reader from one state to another, and a sink that had received the earlier events has also received those that the bytes complete.
pub record Comes {S : Type 0} (agrees : S → List Placed → Type 0) (r r' : Reading) (bytes : List ℕ) (old new : S) : Type 0 where
  pub completed : List Placed
  pub advances : Advances r r' bytes completed
  pub emitted : (earlier : List Placed) → agrees old earlier → AreEvents (completed ++ earlier) → agrees new (completed ++ earlier)

-- The reader hasn't gone back, and what it keeps of the header is the same.
abbrev pub HoldsHeader : Reading → Reading → Type 0
HoldsHeader old new = (old.at ≤ new.at) × (new.header ≡ old.header)

-- These bytes aren't all taken in: one of them isn't, and none before it is refused or completes anything.
pub record StepStops {S : Type 0} (declines : S → S → List Placed → Refusal → Type 0) (r : Reading) (bytes : List ℕ) (old new : S) (refusal : Refusal) : Type 0 where
  pub taken : List ℕ
  pub byte : ℕ
  pub later : List ℕ
  pub is : bytes ≡ taken ++ byte ∷ later
  pub each : (part : List ℕ) → StandsAt r part → (refused_in r.limit (context_of r part) taken ≡ None) × (events_by (context_of r part) taken ≡ [])
      × FlowWhy declines (r.at + length taken) (so_far_for (after_bytes (context_of r part) taken) byte) (refused_in r.limit (context_of r part) (taken ++ byte ∷ [])) (events_by (context_of r part) (taken ++ byte ∷ [])) old new refusal

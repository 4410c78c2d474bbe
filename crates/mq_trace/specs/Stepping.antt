-- The steps of a log's reader: its state after the bytes of one.
use Rattle.std.specs.Prelude.{◌≡◌, ℕ, ◌+◌, ◌*◌, ◌<◌, ◌≤◌, ◌==◌, List, length, min, take, drop, slice_index, true, cond, if◌then◌else◌, [], ◌∷◌, ◌++◌, Option, Some, None, Result, Ok, Err}
use Rattle.std.specs.Int.{w32, from_be_bytes}
use Rattle.mq_log.specs.declared.kind.RecordKind.{RecordKind}
use Rattle.mq_log.specs.declared.kind.RecordKind.TheVariants as kinds
use Rattle.mq_log.specs.declared.kind.Direction.{Direction}
use Rattle.mq_log.specs.declared.place.InRecord.{InRecord}
use Rattle.mq_log.specs.declared.refusal.Refusal.{Refusal}
use Rattle.mq_trace.specs.declared.stage.Stage.TheVariants as stages
use Rattle.mq_trace.specs.declared.reading.Reading.{Reading}
use Rattle.mq_log.specs.Framing.{kind_named, kind_of, body_length, opens, moment_in, head_length, longest_body}
use Rattle.mq_log.specs.Events.{Event}
use Rattle.mq_log.specs.Refusals.{first_byte_refusal, allows_length}
use Rattle.mq_log.specs.Context.{emptied}
use Rattle.mq_trace.specs.declared.connections.Connections.{Connections}
use Rattle.mq_trace.specs.declared.deframer.Deframer.{Deframer}
use Rattle.mq_log.specs.declared.kind.Direction.TheVariants as directions
use Rattle.mq_trace.specs.Emission.{connections_with}
use Rattle.mq_log.specs.Flows.{BodyContext, Flow}
use Rattle.mq_trace.specs.Deframing.{flow_of}
use Rattle.mq_trace.specs.Keeping.{state_in, StandsAt, begun_in}
use Rattle.mq_trace.specs.Heads.{begin_refusal, head_of}

-- the refusal that a result holds, if it holds one
abbrev pub err_of : {A : Type 0} → Result A Refusal → Option Refusal
err_of (Ok a) = None
err_of (Err refusal) = Some refusal

-- after one more byte of the log's header
abbrev pub after_header_byte : Reading → ℕ → Reading
after_header_byte r byte = record r {
  at = r.at + 1;
  header = record {
    version = if r.at == 4 then byte else r.header.version;
    server = if r.at == 5 then byte == 1 else r.header.server;
    releases = if r.at == 6 then byte == 1 else r.header.releases;
  };
}

-- the refusal that applies at the first byte of a record of this kind
abbrev pub kind_refusal : Reading → RecordKind → Option Refusal
kind_refusal r kind = first_byte_refusal r.at r.header.releases r.connections.connected r.records kind

-- after the first byte of a record of this kind
pub record BeginsRecord (r r' : Reading) (kind : RecordKind) : Type 0 where
  pub is : r' ≡ record r { at = r.at + 1; stage = stages.Head (head_of kind 0 0); sent = r'.sent; recv = r'.recv }
  pub sent : state_in r'.sent ≡ cond (opens (Some kind)) emptied (state_in r.sent)
  pub recv : state_in r'.recv ≡ cond (opens (Some kind)) emptied (state_in r.recv)

-- the refusal of a record's first byte
abbrev pub refused_first : Reading → Option RecordKind → Option Refusal
refused_first r kind = begin_refusal r.at r.header.releases r.connections.connected r.records kind

-- after more bytes of a record's head
abbrev pub in_head : Reading → ℕ → RecordKind → ℕ → ℕ → Reading
in_head r at kind count number = record r { at = at; stage = stages.Head (head_of kind count number) }

-- The next byte is the last one of the length of a record of this kind, which is this number and is allowed.
pub record EndsLength (r : Reading) (kind : RecordKind) (number byte : ℕ) : Type 0 where
  pub so_far : ℕ
  pub within : r.stage ≡ stages.Head (head_of kind 3 so_far)
  pub is : number ≡ so_far * 256 + byte
  pub allowed : allows_length r.header.version (Some kind) number ≡ true

-- the kind of the records that carry packets this way
abbrev pub kind_for : Direction → RecordKind
kind_for directions.Sent = kinds.Sent
kind_for directions.Recv = kinds.Recv

-- The reader is between two records, and the next bytes are the head of one that carries packets this way, of this length and moment, and meets no refusal.
pub record IsBodyHead (r : Reading) (bytes : List ℕ) (direction : Direction) (number moment : ℕ) : Type 0 where
  pub past_header : 8 ≤ r.at
  pub between : r.stage ≡ stages.Between
  pub connected : r.connections.connected ≡ true
  pub room : r.records < 4294967295
  pub whole : head_length r.header.version ≤ length bytes
  pub named : kind_named (slice_index bytes 0) ≡ Some (kind_for direction)
  pub spelled : number ≡ from_be_bytes w32 (slice_index bytes 1 ∷ slice_index bytes 2 ∷ slice_index bytes 3 ∷ slice_index bytes 4 ∷ [])
  pub allowed : number ≤ longest_body r.header.version
  pub timed : moment_in (head_length r.header.version) bytes ≡ moment

-- What of a record's body of this length is there, after a head of this length.
abbrev pub begun_body : ℕ → ℕ → List ℕ → List ℕ
begun_body ahead number bytes = take (min (length (drop ahead bytes)) number) (drop ahead bytes)

-- after a whole length of a record that has a moment
abbrev pub in_moment : Reading → ℕ → RecordKind → ℕ → ℕ → ℕ → Reading
in_moment r at kind number count moment = record r { at = at; stage = stages.Moment kind number count; moment = moment }

-- The next byte is the last one of the head of a record of this kind, whose body has this length and which has this moment.
pub record EndsHead (r : Reading) (kind : RecordKind) (number moment byte : ℕ) : Type 0 where
  pub begun : 0 < begun_in r.stage
  pub few : begun_in r.stage ≤ 12
  pub allowed : allows_length r.header.version (Some kind) number ≡ true
  pub each : (part : List ℕ) → StandsAt r part → (kind_of part ≡ Some kind) × (length part + 1 ≡ head_length r.header.version) × (body_length (part ++ byte ∷ []) ≡ number)
      × (moment_in (head_length r.header.version) (part ++ byte ∷ []) ≡ moment) × (opens (Some kind) ≡ true → (state_in r.sent ≡ emptied) × (state_in r.recv ≡ emptied))

-- after the last byte of a record that completes this event
abbrev pub marked : Reading → Event → Reading
marked r event = record r {
  at = r.at + 1;
  records = r.records + 1;
  stage = stages.Between;
  connections = connections_with r.header.server r.connections event;
}

-- with this many bytes of a record's body still to come
abbrev pub leaving : Reading → Direction → ℕ → Reading
leaving r direction left = record r {
  records = if left == 0 then r.records + 1 else r.records;
  stage = if left == 0 then stages.Between else stages.Body direction left;
}

-- the record that is being read, of this moment
abbrev pub in_record_of : Reading → ℕ → InRecord
in_record_of r moment = record { record_no = r.records + 1; moment = moment }

-- the direction of a body's bytes, and what is kept of it
abbrev pub context_for : Reading → Direction → BodyContext
context_for r direction = record { direction = direction; server = r.header.server; in_record = in_record_of r r.moment }

abbrev pub deframer_for : Reading → Direction → Deframer
deframer_for r directions.Sent = r.sent
deframer_for r directions.Recv = r.recv

abbrev pub flow_for : Reading → Direction → Flow
flow_for r direction = flow_of r.at (state_in (deframer_for r direction)) r.connections

-- the reader, with this direction replaced
abbrev pub redirected : Reading → Direction → Deframer → Reading
redirected r directions.Sent d = record r { sent = d }
redirected r directions.Recv d = record r { recv = d }

-- after bytes of a body, of which this many are still to come
abbrev pub carried_on : Reading → Direction → ℕ → Deframer → Connections → ℕ → Reading
carried_on r direction at d connections left = leaving (record (redirected r direction d) { at = at; connections = connections }) direction left

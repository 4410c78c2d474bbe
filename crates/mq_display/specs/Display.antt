-- The lines that show a log's events, with the faults at them if that is asked for, and the result of showing a whole log, from a reader to a writer.
use Rattle.std.specs.Prelude.{◌≡◌, ℕ, ◌+◌, Bool, true, false, nat_le, nat_lt, ◌&&◌, List, [], ◌∷◌, ◌++◌, codes, decimal, Option, Some, None, Result, Ok, Err, if◌then◌else◌, ◌==◌}
use Rattle.std.specs.List.{filter, flat_map, list_any}
use Rattle.std.specs.Io.KnownBytes.{Appends}
use Rattle.mq_log.specs.declared.kind.Direction.{Direction}
use Rattle.mq_log.specs.declared.kind.Direction.TheVariants.{Sent, Recv}
use Rattle.mq_log.specs.declared.place.Place3.{Place3}
use Rattle.mq_log.specs.Framing.{header_by}
use Rattle.mq_log.specs.Events.{Event, Placed, opened, closed, rested, released, sent, received, events}
use Rattle.mq_log.specs.Refusals.{refused}
use Rattle.mq_log.specs.Refusing.{spaced}
use Rattle.mq_trace.specs.Writing.{AppendsBeginning}
use Rattle.mq_rules.specs.declared.role.Role as roles
use Rattle.mq_rules.specs.declared.rule.Rule.{Rule}
use Rattle.mq_rules.specs.declared.fault.Fault.{Fault}
use Rattle.mq_rules.specs.declared.faults.FaultKey.{FaultKey}
use Rattle.mq_rules.specs.Naming.{citation_of, sentence_of}
use Rattle.mq_rules.specs.Rules.{code_of}
use Rattle.mq_rules.specs.declared.evidence.Evidence.{Evidence}
use Rattle.mq_display.specs.Because.{reason_words}
use Rattle.mq_report.specs.Reasons.{later_reasons}
use Rattle.mq_report.specs.declared.report.RunFault.{RunFault}
use Rattle.mq_report.specs.declared.report.RunFault.TheVariants as run_faults
use Rattle.mq_display.specs.Calendar.{time_words}
use Rattle.mq_display.specs.Details.{detail_text, broken_detail_text}
use Rattle.mq_display.specs.declared.packet_summary.PacketSummary.{PacketSummary}
use Rattle.mq_display.specs.ItemText.{item_text, packet_text}
use Rattle.mq_report.specs.Report.{line}
use Rattle.mq_report.specs.Stopping.{default_limit, IsJudged, IsRefusedAt}

-- ---- the lines of events

-- the records of this log have moments: its header names version 2 of the layout
abbrev pub is_timed : List ℕ → Bool
is_timed log = (header_by log).version == 2

-- the text of an event
abbrev pub event_text : Event → List ℕ
event_text opened = codes "OPEN"
event_text (closed unfinished) = codes "CLOSE"
event_text rested = codes "REST"
event_text (released identifier) = spaced (codes "RELEASE" ∷ decimal identifier ∷ [])
event_text (sent item) = spaced (codes "SENT" ∷ item_text item ∷ [])
event_text (received item) = spaced (codes "RECV" ∷ item_text item ∷ [])

-- the words on the moment of an event's record, if the records of the log have moments
abbrev pub moment_words : (timed : Bool) → (moment : ℕ) → List (List ℕ)
moment_words false moment = []
moment_words true moment = codes "moment" ∷ decimal moment ∷ []

-- the place of an event: its position, its record, and that record's moment if the records of the log have moments
abbrev pub place_text : (timed : Bool) → Place3 → List ℕ
place_text timed place = spaced (decimal place.position ∷ codes "record" ∷ decimal place.record_no ∷ moment_words timed place.moment)

-- an event at its place: the place, and after a space the event's text
abbrev pub event_words : (timed : Bool) → Placed → List ℕ
event_words timed placed = place_text timed placed.place ++ 32 ∷ event_text placed.event

-- the line of an event
abbrev pub event_line : (timed : Bool) → Placed → List ℕ
event_line timed placed = line (event_words timed placed)

-- the word for a direction
abbrev pub direction_word : Direction → List ℕ
direction_word Sent = codes "SENT"
direction_word Recv = codes "RECV"

-- the line of a packet of this size in this direction, at its place, from what a line says of it
abbrev pub packet_line : (timed : Bool) → Place3 → Direction → PacketSummary → ℕ → List ℕ
packet_line timed place direction packet size =
    line (place_text timed place ++ 32 ∷ spaced (direction_word direction ∷ packet_text packet size ∷ []))

-- the line of an event with what else its packet says, or what a CLOSE leaves unfinished
abbrev pub long_line : (timed : Bool) → Placed → List ℕ
long_line timed placed = line (event_words timed placed ++ detail_text placed.event)

-- the line of an event with the type and the bytes of its packet, if that breaks a rule, or what a CLOSE leaves unfinished
abbrev pub line_with_bytes : (timed : Bool) → Placed → List ℕ
line_with_bytes timed placed = line (event_words timed placed ++ broken_detail_text placed.event)

-- the line of an event under which its faults stand, short or long
abbrev pub shown_line : (timed long : Bool) → Placed → List ℕ
shown_line timed false placed = line_with_bytes timed placed
shown_line timed true placed = long_line timed placed

-- the lines of events, each made by this function: the events are given the newest first, and their lines are the oldest first
abbrev pub lines_by : (Placed → List ℕ) → List Placed → List ℕ
lines_by line_of [] = []
lines_by line_of (newest ∷ earlier) = lines_by line_of earlier ++ line_of newest

-- the short lines of events
abbrev pub short_lines_of : (timed : Bool) → List Placed → List ℕ
short_lines_of timed shown = lines_by (event_line timed) shown

-- the long lines of events
abbrev pub long_lines_of : (timed : Bool) → List Placed → List ℕ
long_lines_of timed shown = lines_by (long_line timed) shown

-- ---- the lines of events and of the faults at them

-- What is shown of events: the faults at them, in ascending order, of an end in this role; what they conflict with, in their order; only the events within
-- `around` positions of a fault, or all of them if that is None; and whether their lines are long.
pub record Annotation : Type 0 where
  pub role : roles.Role
  pub faults : List (FaultKey × Fault)
  pub reasons : List Evidence
  pub around : Option ℕ
  pub long : Bool

-- two positions are at most `count` apart
abbrev pub is_within : ℕ → ℕ → ℕ → Bool
is_within count a b = nat_le a (b + count) && nat_le b (a + count)

-- a position is at most `count` from one of these faults; with None any position is near
abbrev pub is_near : Option ℕ → List (FaultKey × Fault) → ℕ → Bool
is_near None faults position = true
is_near (Some count) faults position = list_any (λ found. is_within count found.0.position position) faults

-- the first of these reasons, if there is one
abbrev pub reason_of_first : List Evidence → Option Evidence
reason_of_first [] = None
reason_of_first (reason ∷ reasons) = Some reason

-- Each fault with its reason: the first one with the first, and so on. A fault beyond the end of the reasons has none, and a reason beyond the faults is left out.
abbrev pub explained : List (FaultKey × Fault) → List Evidence → List ((FaultKey × Fault) × Option Evidence)
explained [] reasons = []
explained (found ∷ faults) reasons = (found, reason_of_first reasons) ∷ explained faults (later_reasons reasons)

-- those of these faults that are at this position, with their reasons, in their order
abbrev pub explained_at : ℕ → List ((FaultKey × Fault) × Option Evidence) → List ((FaultKey × Fault) × Option Evidence)
explained_at position faults = filter (λ found. found.0.0.position == position) faults

-- the words on where a fault was decided, if that is at a later event
abbrev pub decided_words : (position decided : ℕ) → List ℕ
decided_words position decided = if nat_lt position decided then codes " (decided at event " ++ decimal decided ++ codes ")" else []

-- the words on where in its packet a fault is, if it is on a packet's bytes
abbrev pub offset_words : Option ℕ → List ℕ
offset_words None = []
offset_words (Some offset) = codes " (offset " ++ decimal offset ++ codes ")"

-- the words on a statement that is broken by an end in this role, and what it says
abbrev pub statement_words : roles.Role → Rule → List ℕ
statement_words role rule = codes "  " ++ spaced (codes "fault" ∷ code_of rule ∷ citation_of rule role ∷ sentence_of rule ∷ [])

-- The line of a fault of an end in this role: its statement, what it conflicts with, where it was decided, where in the packet it is, and when it happened.
abbrev pub fault_note : roles.Role → (time : List ℕ) → (FaultKey × Fault) × Option Evidence → List ℕ
fault_note role time found = line (statement_words role found.0.0.rule ++ reason_words found.0.0.rule found.1
    ++ decided_words found.0.0.position found.0.1.decided ++ offset_words found.0.1.offset ++ time)

-- the lines of these faults, which happened at this time
abbrev pub fault_notes : roles.Role → (time : List ℕ) → List ((FaultKey × Fault) × Option Evidence) → List ℕ
fault_notes role time faults = flat_map (fault_note role time) faults

-- an event after these would begin a run of events that are left out: it is the first of its log, or the one before it is near to a fault
abbrev pub begins_gap : Option ℕ → List (FaultKey × Fault) → List Placed → Bool
begins_gap around faults [] = true
begins_gap around faults (newest ∷ earlier) = is_near around faults newest.place.position

-- the line of an event, and the lines of the faults at it, each with its own reason
abbrev pub noted_line : (timed : Bool) → Annotation → Placed → List ℕ
noted_line timed a placed =
    shown_line timed a.long placed ++ fault_notes a.role (time_words timed placed.place.moment) (explained_at placed.place.position (explained a.faults a.reasons))

-- An event is shown, or it is left out: the first of a run of events that are left out gives the line `..`.
abbrev pub text_if : (shown timed : Bool) → Annotation → (begins : Bool) → Placed → List ℕ
text_if shown timed a begins placed = if shown then noted_line timed a placed else (if begins then line (codes "..") else [])

-- an event is shown if it is near to a fault
abbrev pub event_text_after : (timed : Bool) → Annotation → (begins : Bool) → Placed → List ℕ
event_text_after timed a begins placed = text_if (is_near a.around a.faults placed.place.position) timed a begins placed

-- what is shown of events, which are given the newest first
abbrev pub annotated : (timed : Bool) → Annotation → List Placed → List ℕ
annotated timed a [] = []
annotated timed a (newest ∷ earlier) = annotated timed a earlier ++ event_text_after timed a (begins_gap a.around a.faults earlier) newest

-- ---- showing a log

-- A beginning of the text of the events of these first bytes of a log was written, but not all of it. Nothing is refused in these bytes.
pub record WritesBeginning (text_of : List Placed → List ℕ) (log : List ℕ) (old new : Option (List ℕ)) : Type 0 where
  pub taken : List ℕ
  pub later : List ℕ
  pub is : log ≡ taken ++ later
  pub unrefused : refused default_limit taken ≡ None
  pub written : AppendsBeginning old new (text_of (events taken))

-- What showing this log by this text of events did, by its result and what the reader has left. It wrote the text of the log's events and nothing else;
-- if the log is refused, that of the events that are complete before the refused byte; if writing failed, a beginning of it.
abbrev pub Shows : (List Placed → List ℕ) → List ℕ → Option (List ℕ) → Result (Unit {0}) RunFault → Option (List ℕ) → Option (List ℕ) → Type 0
Shows text_of log left (Ok _) old new = IsJudged log × Appends old new (text_of (events log))
Shows text_of log left (Err (run_faults.Refused refusal)) old new =
    (stops : IsRefusedAt default_limit log left refusal) × Appends old new (text_of (events stops.taken))
Shows text_of log left (Err run_faults.Write) old new = WritesBeginning text_of log old new
Shows text_of log left (Err run_faults.Memory) old new = ⊥

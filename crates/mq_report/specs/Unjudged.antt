-- What a report says of what in a log wasn't judged.
use Rattle.std.specs.Prelude.{ℕ, ◌/◌, List, [], ◌∷◌, ◌++◌, map, codes, decimal, Option, Some, None}
use Rattle.std.specs.List.{flat_map}
use Rattle.serde_json.specs.Data.{Data, number, unsigned, string, object, Items, Members, member, no_members}
use Rattle.serde_json.specs.View.{items_of}
use Rattle.mq_log.specs.declared.kind.Direction.TheVariants as directions
use Rattle.mq_log.specs.declared.place.Place3.{Place3}
use Rattle.mq_log.specs.Refusing.{spaced}
use Rattle.mq_report.specs.declared.report.unjudged.Begun.{Begun}
use Rattle.mq_report.specs.declared.report.unjudged.Gap.{Gap}
use Rattle.mq_report.specs.declared.report.unjudged.Gap.TheVariants.{Lost, UnknownSession, Unfinished, UndecidedSession, Shared, NoRest, NoReleases}
use Rattle.mq_report.specs.TypeNames.{name_beside, type_names}
use Rattle.mq_report.specs.Report.{line}

-- what it is that wasn't judged: a direction, a session, statements, or whether answers are missing
abbrev pub gap_what : Gap → List ℕ
gap_what (Lost directions.Sent place) = codes "sent"
gap_what (Lost directions.Recv place) = codes "received"
gap_what (UnknownSession place) = codes "session"
gap_what (Unfinished directions.Sent begun place) = codes "sent"
gap_what (Unfinished directions.Recv begun place) = codes "received"
gap_what (UndecidedSession place) = codes "session"
gap_what (Shared place) = codes "B01 B02"
gap_what NoRest = codes "answers"
gap_what NoReleases = codes "L1 L2 L3"

-- why it wasn't
abbrev pub gap_why : Gap → List ℕ
gap_why (Lost direction place) = codes "lost"
gap_why (UnknownSession place) = codes "unknown"
gap_why (Unfinished direction begun place) = codes "unfinished"
gap_why (UndecidedSession place) = codes "undecided"
gap_why (Shared place) = codes "shared"
gap_why NoRest = codes "no-rest"
gap_why NoReleases = codes "no-releases"

-- the packet that was begun, if it is one
abbrev pub gap_begun : Gap → Option Begun
gap_begun (Unfinished direction begun place) = Some begun
gap_begun _ = None

-- the event from which on it wasn't, or with which it was dropped, if it is one event
abbrev pub gap_place : Gap → Option Place3
gap_place (Lost direction place) = Some place
gap_place (UnknownSession place) = Some place
gap_place (Unfinished direction begun place) = place
gap_place (UndecidedSession place) = Some place
gap_place (Shared place) = Some place
gap_place NoRest = None
gap_place NoReleases = None

-- of a packet that was begun its type, as `show --long` names it (MQTT 5.0, section 2.1.2), and how many bytes of it came
abbrev pub begun_name : Begun → List ℕ
begun_name begun = name_beside (begun.first / 16) type_names

abbrev pub begun_words : Option Begun → List (List ℕ)
begun_words None = []
begun_words (Some begun) = begun_name begun ∷ codes "bytes" ∷ decimal begun.bytes ∷ []

abbrev pub place_words : Option Place3 → List (List ℕ)
place_words None = []
place_words (Some place) = codes "event" ∷ decimal place.position ∷ codes "record" ∷ decimal place.record_no ∷ []

-- what, why, of which packet that was begun, and from which event and record on
abbrev pub gap_text : Gap → List ℕ
gap_text gap = spaced (codes "unjudged" ∷ gap_what gap ∷ gap_why gap ∷ (begun_words (gap_begun gap) ++ place_words (gap_place gap)))

-- a line for each, in their order
abbrev pub gap_lines : List Gap → List ℕ
gap_lines gaps = flat_map (λ gap. line (gap_text gap)) gaps

-- the same as JSON, whose keys are in alphabetical order
abbrev pub with_bytes : Option Begun → Members → Members
with_bytes None others = others
with_bytes (Some begun) others = member (codes "bytes") (number (unsigned begun.bytes)) others

abbrev pub with_place : Option Place3 → Members → Members
with_place None others = others
with_place (Some place) others = member (codes "event") (number (unsigned place.position)) (member (codes "record") (number (unsigned place.record_no)) others)

abbrev pub with_type : Option Begun → Members → Members
with_type None others = others
with_type (Some begun) others = member (codes "type") (string (begun_name begun)) others

abbrev pub gap_data_by : Option Begun → Option Place3 → (what why : List ℕ) → Data
gap_data_by begun place what why =
    object (with_bytes begun (with_place place (with_type begun (member (codes "what") (string what) (member (codes "why") (string why) no_members)))))

abbrev pub gap_data : Gap → Data
gap_data gap = gap_data_by (gap_begun gap) (gap_place gap) (gap_what gap) (gap_why gap)

abbrev pub gap_items : List Gap → Items
gap_items gaps = items_of (map gap_data gaps)

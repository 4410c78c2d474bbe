-- What is kept of the connection that is open, so that a PUBLISH above the Receive Maximum is known when it is received: the Packet Identifiers of the QoS 2 messages that aren't finished.
use Rattle.std.specs.Prelude.{ℕ, ◌≡◌, nat_eq, nat_lt, Bool, ◌&&◌, ◌||◌, not, List, Option, is_some, option_map}
use Rattle.mq_rules.specs.declared.note.Note.{Note}
use Rattle.mq_rules.specs.declared.note.Seen.{Seen}
use Rattle.mq_rules.specs.declared.packet_note.ConnackNote.{ConnackNote}
use Rattle.mq_connections.specs.declared.duties.unfinished.Unfinished.{Unfinished}
use Rattle.mq_rules.specs.Words.{is_some_and, is_id}
use Rattle.mq_rules.specs.Notes.{is_boundary, received_exactly_once}
use Rattle.mq_rules.specs.Connections.{on_open}
use Rattle.mq_rules.specs.IdentifierCounts.{ids_where}
use Rattle.mq_rules.specs.KeptOrder.{ids_kept, value_under}
use Rattle.mq_rules.specs.ReceiveMaximum.{finishes_id, is_unfinished, receive_maximum_in}

-- ---- what is kept

-- the identifier is kept
abbrev pub has_identifier : Unfinished → ℕ → Bool
has_identifier u i = is_some (value_under u.identifiers i)

-- What is kept is that of these events, the newest first.
pub record IsUnfinished (u : Unfinished) (past : List Seen) : Type 0 where
  pub same : (i : ℕ) → has_identifier u i ≡ is_unfinished (on_open past) i

-- how much is kept
abbrev pub unfinished_weigh : Unfinished → ℕ
unfinished_weigh u = ids_kept u.identifiers

-- ---- one event more

-- the identifier is kept after an event, where it was before or not: none stays where a connection begins or ends
abbrev pub kept_after : Note → ℕ → Bool → Bool
kept_after n i had = is_id i (received_exactly_once n) || (not (finishes_id i n) && (not (is_boundary n) && had))

-- what is kept with one event more
pub record UnfinishedNext (old new : Unfinished) (n : Note) : Type 0 where
  pub each : (i : ℕ) → has_identifier new i ≡ kept_after n i (has_identifier old i)

-- ---- what the next event is

-- how many identifiers are kept, with this one
abbrev pub kept_with : Unfinished → ℕ → ℕ
kept_with u identifier = ids_where (λ i. nat_eq i identifier || has_identifier u i)

-- with this one there are more than the Receive Maximum, if the CONNACK announced that
abbrev pub exceeds_with : Unfinished → Option ConnackNote → ℕ → Bool
exceeds_with u connack identifier = is_some_and (λ most. nat_lt most (kept_with u identifier)) (option_map receive_maximum_in connack)

-- a PUBLISH of QoS 2 is received with which there are
abbrev pub finds_excess : Unfinished → Option ConnackNote → Note → Bool
finds_excess u connack n = is_some_and (exceeds_with u connack) (received_exactly_once n)

-- What came on the latest connection of some events, by which a packet that a server receives next may be a Protocol Error (further statements).
use Rattle.std.specs.Prelude.{ℕ, Bool, ◌||◌, List}
use Rattle.mq_packet.specs.declared.packet.PacketType.TheVariants as types
use Rattle.mq_rules.specs.declared.note.Seen.{Seen}
use Rattle.mq_rules.specs.Words.{is_id}
use Rattle.mq_rules.specs.Notes.{receives_type}
use Rattle.mq_rules.specs.Moments.{note, some}
use Rattle.mq_rules.specs.Connections.{connection}
use Rattle.mq_rules.specs.ProtocolErrors.{alias_received, receives_broken_publish}

-- a CONNECT was received
abbrev pub has_connected : List Seen → Bool
has_connected past = some (λ j. receives_type types.Connect (note j)) (connection past)

-- the client set the Topic Alias, or may have done so
abbrev pub was_set : List Seen → ℕ → Bool
was_set past alias = some (λ j. receives_broken_publish (note j)) (connection past) || some (λ j. is_id alias (alias_received (note j))) (connection past)

-- What the watchers ask of an event that is taken in.
use Rattle.std.specs.Prelude.{ℕ, Bool, ◌&&◌, ◌||◌, not, Option, is_some, option_map, unwrap_or}
use Rattle.mq_rules.specs.declared.role.Role.{Role}
use Rattle.mq_rules.specs.declared.role.Role.TheVariants.{Client, Server}
use Rattle.mq_rules.specs.declared.fate.Fate.{Fate}
use Rattle.mq_rules.specs.declared.note.Note.{Note}
use Rattle.mq_rules.specs.Words.{is_some_and}
use Rattle.mq_rules.specs.Notes.{is_rest, is_broken, sent_item, received_item, sent_fields, received_fields, disconnect_in, connect_of, connack_of}
use Rattle.mq_rules.specs.Connections.{accepts}
use Rattle.mq_rules.specs.declared.packet_note.ConnectNote.{ConnectNote}
use Rattle.mq_rules.specs.declared.packet_note.ConnackNote.{ConnackNote}

-- after this event no REST binds on its connection
abbrev pub ends_by : Note → Bool
ends_by n = is_some_and (λ p. is_some (disconnect_in p)) (sent_fields n) || (is_some_and (λ p. is_some (disconnect_in p)) (received_fields n)
    || (is_some_and is_broken (sent_item n) || is_some_and is_broken (received_item n)))

-- a REST that binds
abbrev pub binds_by : Fate → Bool → Bool → Note → Bool
binds_by f known ended n = is_rest n && (known && (accepts f && not ended))

-- the Receive Maximum that a peer's CONNECT or CONNACK announces
abbrev pub connect_room : Option ConnectNote → Option ℕ
connect_room o = option_map (λ c. unwrap_or c.receive_maximum 65535) o

abbrev pub connack_room : Option ConnackNote → Option ℕ
connack_room o = option_map (λ a. unwrap_or a.receive_maximum 65535) o

abbrev pub announced : Role → Note → Option ℕ
announced Client n = connack_room (connack_of Client n)
announced Server n = connect_room (connect_of Server n)

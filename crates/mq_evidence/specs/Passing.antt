-- Events that pass by what is kept: they neither begin a stretch anew nor concern it.
use Rattle.std.specs.Prelude.{Bool, true, false, ◌&&◌, not}
use Rattle.mq_rules.specs.declared.note.Note.{Note}
use Rattle.mq_rules.specs.declared.note.Note.TheVariants as notes
use Rattle.mq_rules.specs.declared.note.ItemNote.TheVariants as items
use Rattle.mq_rules.specs.declared.packet_note.PacketFields.{PacketFields}
use Rattle.mq_rules.specs.declared.packet_note.PacketFields.TheVariants.{Connect, Connack, Publish, Puback, Pubrec, Pubrel, Pubcomp, Subscribe, Suback, Unsubscribe, Unsuback, Disconnect}
use Rattle.mq_rules.specs.Notes.{is_acknowledged}
use Rattle.mq_evidence.specs.declared.turn.Turn.{Turn}

-- No session and no connection begins with the event.
abbrev pub goes_on : Turn → Bool
goes_on t = not t.begins && not t.opens

-- a packet that the other end is to answer, and one that answers; a PUBREC and a PUBREL are both
abbrev pub asks : PacketFields → Bool
asks (Publish p) = is_acknowledged p.qos
asks (Pubrec identifier code) = true
asks (Pubrel identifier code) = true
asks (Subscribe identifier filters wishes) = true
asks (Unsubscribe identifier filters) = true
asks _ = false

abbrev pub answers : PacketFields → Bool
answers (Puback identifier code) = true
answers (Pubrec identifier code) = true
answers (Pubrel identifier code) = true
answers (Pubcomp identifier code) = true
answers (Suback identifier codes) = true
answers (Unsuback identifier codes) = true
answers _ = false

-- a packet by which a connection begins or ends
abbrev pub greets : PacketFields → Bool
greets (Connect c method) = true
greets (Connack c method) = true
greets (Disconnect d) = true
greets _ = false

-- a packet by which the tested end is asked for nothing, and answers nothing
abbrev pub is_unasked : Note → Bool
is_unasked (notes.Sent (items.Packet p)) = not (answers p.fields)
is_unasked (notes.Recv (items.Packet p)) = not (asks p.fields)
is_unasked _ = false

-- a packet by which the tested end asks for nothing, and is answered nothing
abbrev pub is_unasking : Note → Bool
is_unasking (notes.Sent (items.Packet p)) = not (asks p.fields)
is_unasking (notes.Recv (items.Packet p)) = not (answers p.fields)
is_unasking _ = false

-- a packet by which no connection begins or ends
abbrev pub is_amid : Note → Bool
is_amid (notes.Sent (items.Packet p)) = not (greets p.fields)
is_amid (notes.Recv (items.Packet p)) = not (greets p.fields)
is_amid _ = false

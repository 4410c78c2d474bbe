-- Which notes own memory of their own, so that a copy needs some.
use Rattle.std.specs.Prelude.{◌≡◌, ◌<◌, ◌⊎◌, true, is_some, length}
use Rattle.mq_rules.specs.declared.packet_note.PacketFields.{PacketFields}
use Rattle.mq_rules.specs.declared.packet_note.PacketFields.TheVariants.{Auth, Connack, Connect, Publish, Subscribe, Suback, Unsubscribe, Unsuback}
use Rattle.mq_rules.specs.declared.note.ItemNote.{ItemNote}
use Rattle.mq_rules.specs.declared.note.ItemNote.TheVariants.{Packet}
use Rattle.mq_rules.specs.declared.note.Note.{Note}
use Rattle.mq_rules.specs.declared.note.Note.TheVariants.{Sent, Recv}

-- a Topic Name of more than 30 bytes, several Subscription Identifiers, some filters, several Reason Codes, or an Authentication Method
abbrev pub fields_own : PacketFields → Type 0
fields_own (Connect c method) = is_some method ≡ true
fields_own (Connack c method) = is_some method ≡ true
fields_own (Publish p) = (30 < length p.topic) ⊎ (1 < length p.subscription_identifiers)
fields_own (Subscribe identifier filters wishes) = 0 < length filters
fields_own (Suback identifier codes) = 1 < length codes
fields_own (Unsubscribe identifier filters) = 0 < length filters
fields_own (Unsuback identifier codes) = 1 < length codes
fields_own (Auth method) = is_some method ≡ true
fields_own _ = ⊥

abbrev pub item_owns : ItemNote → Type 0
item_owns (Packet p) = fields_own p.fields
item_owns _ = ⊥

abbrev pub note_owns : Note → Type 0
note_owns (Sent item) = item_owns item
note_owns (Recv item) = item_owns item
note_owns _ = ⊥

-- Packets that are sent or received, and which of them may concern a group of watchers.
use Rattle.std.proofs.Common.{◌≡◌, ℕ, Bool, false, refl, ap, ◌∙◌}
use Rattle.mq_packet.specs.declared.packet.Qos.{Qos}
use Rattle.mq_rules.specs.declared.note.Note.{Note}
use Rattle.mq_rules.specs.declared.note.Note.TheVariants as notes
use Rattle.mq_rules.specs.declared.note.ItemNote.TheVariants as items
use Rattle.mq_rules.specs.declared.packet_note.PacketFields.{PacketFields}
use Rattle.mq_rules.specs.declared.packet_note.PacketFields.TheVariants.{Publish, Puback, Pubrec, Pubrel, Pubcomp, Pingreq, Pingresp}
use Rattle.mq_rules.specs.declared.packet_note.PublishNote.{PublishNote}
use Rattle.mq_log.specs.declared.kind.Direction.TheVariants.{Sent, Recv}
use Rattle.mq_rules.specs.declared.bare.Bare.{Bare}
use Rattle.mq_rules.specs.declared.bare.BareFields.{BareFields}
use Rattle.mq_rules.specs.declared.bare.BareFields.TheVariants as bares
use Rattle.mq_rules.specs.Notes.{bare_note, bare_fields, note_of_bare}
use Rattle.mq_fates.specs.Selecting.{may_concern_subscriptions}

-- a packet that is sent; one that is received
abbrev pub sent : ℕ → Bool → Bool → PacketFields → Note
sent size a b fields = notes.Sent (items.Packet (record { size = size; has_reason_string = a; has_user_property = b; fields = fields }))

abbrev pub received : ℕ → Bool → Bool → PacketFields → Note
received size a b fields = notes.Recv (items.Packet (record { size = size; has_reason_string = a; has_user_property = b; fields = fields }))

-- a PUBLISH with this QoS
abbrev pub at_qos : PublishNote → Qos → PacketFields
at_qos p q = Publish (record { identifier = p.identifier; qos = q; duplicate = p.duplicate; retain = p.retain; topic = p.topic; topic_alias = p.topic_alias; uses_alias = p.uses_alias; has_message_expiry = p.has_message_expiry; has_subscription_identifier = p.has_subscription_identifier; subscription_identifiers = p.subscription_identifiers })

unsubscribing-note : (bound : Bool) (size : ℕ) (fields : BareFields) → may_concern_subscriptions bound (bare_note Recv size (bare_fields Recv fields)) ≡ false
unsubscribing-note bound size (bares.Publish identifier qos duplicate topic) = refl
unsubscribing-note bound size (bares.Puback identifier code) = refl
unsubscribing-note bound size (bares.Pubrec identifier code) = refl
unsubscribing-note bound size (bares.Pubrel identifier code) = refl
unsubscribing-note bound size (bares.Pubcomp identifier code) = refl
unsubscribing-note bound size bares.Pingreq = refl
unsubscribing-note bound size bares.Pingresp = refl

pub received-unsubscribing : (bound : Bool) (b : Bare) → b.direction ≡ Recv → may_concern_subscriptions bound (note_of_bare b) ≡ false
unfolding note_of_bare
received-unsubscribing bound b way = ap (λ d. may_concern_subscriptions bound (bare_note d b.size (bare_fields d b.fields))) way ∙ unsubscribing-note bound b.size b.fields

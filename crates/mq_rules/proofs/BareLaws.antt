-- Notes of bare packets.
use Rattle.std.proofs.Common.{◌≡◌, ℕ, false, None, refl}
use Rattle.mq_log.specs.declared.kind.Direction.{Direction}
use Rattle.mq_log.specs.declared.kind.Direction.TheVariants.{Sent, Recv}
use Rattle.mq_rules.specs.declared.packet_note.PacketFields.{PacketFields}
use Rattle.mq_rules.specs.declared.bare.Bare.{Bare}
use Rattle.mq_rules.specs.Notes.{bare_fields, bare_note, note_of_bare, sent_fault, is_open}

-- a bare packet is a packet
unbroken-note : (direction : Direction) (size : ℕ) (fields : PacketFields) → sent_fault (bare_note direction size fields) ≡ None
unbroken-note Sent size fields = refl
unbroken-note Recv size fields = refl

pub bare-unbroken : (b : Bare) → sent_fault (note_of_bare b) ≡ None
unfolding note_of_bare
bare-unbroken b = unbroken-note b.direction b.size (bare_fields b.direction b.fields)

closed-note : (direction : Direction) (size : ℕ) (fields : PacketFields) → is_open (bare_note direction size fields) ≡ false
closed-note Sent size fields = refl
closed-note Recv size fields = refl

pub bare-closed : (b : Bare) → is_open (note_of_bare b) ≡ false
unfolding note_of_bare
bare-closed b = closed-note b.direction b.size (bare_fields b.direction b.fields)

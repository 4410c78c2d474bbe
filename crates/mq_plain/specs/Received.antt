-- In an exchange the cause is received, and the answer is sent.
use Rattle.std.specs.Prelude.{ℕ, ◌≡◌, ◌&&◌, Option, is_some, refl}
use Rattle.mq_rules.specs.declared.note.Note.{Note}
use Rattle.mq_rules.specs.declared.note.Note.TheVariants as notes
use Rattle.mq_rules.specs.declared.packet_note.PacketFields.{PacketFields}
use Rattle.mq_rules.specs.Notes.{sent_item, received_item, sent_as, received_as, received_once_acknowledged, received_exactly_once}

-- the identifier is found only in what is received; only in what is sent
abbrev pub IsReceived : (Note → Option ℕ) → Type 0
IsReceived found = (note : Note) → is_some (found note) ≡ (is_some (received_item note) && is_some (found note))

abbrev pub IsSent : (Note → Option ℕ) → Type 0
IsSent found = (note : Note) → is_some (found note) ≡ (is_some (sent_item note) && is_some (found note))

pub sent_as-sent : (found : PacketFields → Option ℕ) → IsSent (sent_as found)
sent_as-sent found (notes.Sent item) = refl
sent_as-sent found _ = refl

pub received_as-received : (found : PacketFields → Option ℕ) → IsReceived (received_as found)
received_as-received found (notes.Recv item) = refl
received_as-received found _ = refl

pub once_acknowledged-received : IsReceived received_once_acknowledged
once_acknowledged-received (notes.Recv item) = refl
once_acknowledged-received _ = refl

pub exactly_once-received : IsReceived received_exactly_once
exactly_once-received (notes.Recv item) = refl
exactly_once-received _ = refl

-- Packets in their shortest form.
use Rattle.std.specs.Prelude.{ℕ, ◌+◌, ◌==◌, Bool, false, ◌&&◌, ◌||◌, not, List, [], ◌∷◌, length, drop, slice_index, bit_and, Option, Some, None, Result, Ok, Err}
use Rattle.std.specs.Int.{w16, from_be_bytes}
use Rattle.mq_wire.specs.declared.fault.Reason.{Reason}
use Rattle.mq_wire.specs.Fields.{binary_at}
use Rattle.mq_wire.specs.Plain.{plain_text_at}
use Rattle.mq_props.specs.Empty.{begins_with_zero}
use Rattle.mq_props.specs.declared.table.Place.TheVariants as places
use Rattle.mq_packet.specs.declared.packet.Qos.{Qos}
use Rattle.mq_packet.specs.declared.packet.Qos.TheVariants.{AtMostOnce}
use Rattle.mq_packet.specs.Entries.{PublishFields, none_listed}
use Rattle.mq_packet.specs.Formats.{has_bits}

-- A body begins with what a length of two bytes counts, and goes on with an empty property list: in a PUBLISH of QoS 0, with the
-- Topic Name, so that it has no properties (3.3.2).
abbrev pub goes_on_without_properties : List ℕ → Result (List ℕ × ℕ) Reason → Bool
goes_on_without_properties body (Ok found) = begins_with_zero (drop found.1 body)
goes_on_without_properties body (Err reason) = false

abbrev pub has_no_properties : List ℕ → Bool
has_no_properties body = goes_on_without_properties body (binary_at body)

-- A body begins with this Topic Name, which isn't empty, and goes on with an empty property list (3.3.2).
abbrev pub goes_on_briefly : List ℕ → Option (List ℕ × ℕ) → Bool
goes_on_briefly body None = false
goes_on_briefly body (Some found) = not (length found.0 == 0) && begins_with_zero (drop found.1 body)

-- A body begins with a plain Topic Name that isn't empty, and goes on with an empty property list.
abbrev pub is_brief_body : List ℕ → Bool
is_brief_body body = goes_on_briefly body (plain_text_at body)

-- So does the body of a PUBLISH with these flags, which say QoS 0 and no DUP (3.3.1).
abbrev pub is_brief : ℕ → List ℕ → Bool
is_brief flags body = (bit_and flags 6 == 0) && (not (has_bits 8 flags) && is_brief_body body)

-- The PUBLISH of QoS 0 with this Topic Name and this body, which goes on with an empty property list.
abbrev pub brief_fields : Bool → List ℕ → List ℕ → PublishFields
brief_fields retain topic body = record { duplicate = false; qos = AtMostOnce; retain = retain; topic = topic; identifier = None; properties = none_listed places.Publish; payload = drop (length topic + 3) body }

-- A Packet Identifier other than 0 (2.2.1), and then an empty property list.
abbrev pub starts_identified : List ℕ → Bool
starts_identified (a ∷ b ∷ bytes) = not (from_be_bytes w16 (a ∷ b ∷ []) == 0) && begins_with_zero bytes
starts_identified _ = false

-- A body begins with this Topic Name, which isn't empty, and goes on with a Packet Identifier and an empty property list (3.3.2).
abbrev pub goes_on_identified : List ℕ → Option (List ℕ × ℕ) → Bool
goes_on_identified body None = false
goes_on_identified body (Some found) = not (length found.0 == 0) && starts_identified (drop found.1 body)

-- A body begins with a plain Topic Name that isn't empty, and goes on with a Packet Identifier and an empty property list.
abbrev pub is_identified_body : List ℕ → Bool
is_identified_body body = goes_on_identified body (plain_text_at body)

-- The PUBLISH with this Topic Name and this body, which goes on with a Packet Identifier and an empty property list.
abbrev pub identified_fields : Bool → Qos → Bool → List ℕ → List ℕ → PublishFields
identified_fields duplicate qos retain topic body = record {
  duplicate = duplicate;
  qos = qos;
  retain = retain;
  topic = topic;
  identifier = Some (from_be_bytes w16 (slice_index body (length topic + 2) ∷ slice_index body (length topic + 3) ∷ []));
  properties = none_listed places.Publish;
  payload = drop (length topic + 5) body;
}

-- So does the body of a PUBLISH with these flags, which say QoS 1 or 2 (3.3.1).
abbrev pub is_brief_identified : ℕ → List ℕ → Bool
is_brief_identified flags body = ((bit_and flags 6 == 2) || (bit_and flags 6 == 4)) && is_identified_body body

-- Two bytes spell a Packet Identifier other than 0 (2.2.1).
abbrev pub is_identifier_alone : List ℕ → Bool
is_identifier_alone (a ∷ b ∷ []) = not (from_be_bytes w16 (a ∷ b ∷ []) == 0)
is_identifier_alone _ = false

-- A PUBACK, PUBREC, PUBREL or PUBCOMP has this first byte, and no more than a Packet Identifier (3.4.2 to 3.7.2).
abbrev pub is_brief_acknowledgement : ℕ → List ℕ → Bool
is_brief_acknowledgement first body = is_identifier_alone body && ((first == 64) || ((first == 80) || ((first == 98) || (first == 112))))

-- A PINGREQ or PINGRESP has this first byte, and no body (3.12, 3.13).
abbrev pub is_ping : ℕ → List ℕ → Bool
is_ping first body = (length body == 0) && ((first == 192) || (first == 208))

-- The spellings of a packet. Each packet has one, except PUBACK, PUBREC, PUBREL, PUBCOMP, DISCONNECT and AUTH, which may
-- leave out an empty property list, and then the Reason Code 0x00 too (MQTT 5.0, 3.4.2.1 to 3.7.2.1, 3.14.2.1 and
-- 3.15.2.1).
use Rattle.std.specs.Prelude.{◌≡◌, ℕ, ◌-◌, ◌==◌, ◌⊎◌, Bool, true, false, List, [], ◌∷◌, ◌++◌, length, take, drop, Ok}
use Rattle.mq_wire.specs.Spellings.{two_bytes_spelling}
use Rattle.mq_props.specs.Values.{Property}
use Rattle.mq_packet.specs.Entries.{Entry, connect, connack, publish, acknowledgement, request, answer, pingreq, pingresp, disconnect, auth}
use Rattle.mq_packet.specs.declared.frame.Cut.TheVariants.{Frame}
use Rattle.mq_packet.specs.Decoding.{decoded}
use Rattle.mq_packet.specs.Frames.{cut_of}
use Rattle.mq_packet.specs.Canonical.{list_spelling, first_byte_of, canonical_body}
use Rattle.mq_packet.specs.Valid.{valid, IsTyped}

-- The bytes spell a Reason Code and properties at the end of a packet: the code and the property list; or, without properties,
-- only the code; or, without properties, nothing if the code is 0x00.
abbrev pub SpellsEnd : ℕ → List Property → List ℕ → Type 0
SpellsEnd code items bytes =
    (bytes ≡ code ∷ list_spelling items)
    ⊎ (((items ≡ []) × (bytes ≡ code ∷ []))
    ⊎ ((items ≡ []) × (code ≡ 0) × (bytes ≡ [])))

-- These bytes are a body of the packet: its identifier and such an end, only an end, or the one body that is written.
abbrev pub IsBodyOf : Entry → List ℕ → Type 0
IsBodyOf (acknowledgement kind identifier code list) body =
    (end : List ℕ) × (body ≡ two_bytes_spelling identifier ++ end) × SpellsEnd code list.items end
IsBodyOf (disconnect code list) body = SpellsEnd code list.items body
IsBodyOf (auth code list) body = SpellsEnd code list.items body
IsBodyOf (connect fields) body = body ≡ canonical_body (connect fields)
IsBodyOf (connack session_present code list) body = body ≡ canonical_body (connack session_present code list)
IsBodyOf (publish fields) body = body ≡ canonical_body (publish fields)
IsBodyOf (request kind identifier list filters) body = body ≡ canonical_body (request kind identifier list filters)
IsBodyOf (answer kind identifier list reasons) body = body ≡ canonical_body (answer kind identifier list reasons)
IsBodyOf pingreq body = body ≡ []
IsBodyOf pingresp body = body ≡ []

-- The packet is valid, and these are its first byte and a body of it.
pub record IsSpelling (first : ℕ) (body : List ℕ) (entry : Entry) : Type 0 where
  pub typed : IsTyped entry
  pub is_valid : valid entry ≡ true
  pub first_is : first ≡ first_byte_of entry
  pub body_is : IsBodyOf entry body

-- The packets that have short forms: PUBACK, PUBREC, PUBREL, PUBCOMP, DISCONNECT and AUTH without properties.
abbrev pub has_short_form : Entry → Bool
has_short_form (acknowledgement kind identifier code list) = length list.items == 0
has_short_form (disconnect code list) = length list.items == 0
has_short_form (auth code list) = length list.items == 0
has_short_form (connect fields) = false
has_short_form (connack session_present code list) = false
has_short_form (publish fields) = false
has_short_form (request kind identifier list filters) = false
has_short_form (answer kind identifier list reasons) = false
has_short_form pingreq = false
has_short_form pingresp = false

-- A body is short for another: it lacks one or two bytes 0x00 at the end, which are the length of an empty property list, the
-- Reason Code 0x00, or both.
abbrev pub IsShortFor : List ℕ → List ℕ → Type 0
IsShortFor short long = (long ≡ short ++ (0 ∷ [])) ⊎ (long ≡ short ++ (0 ∷ 0 ∷ []))

-- The bytes begin with a frame whose first byte and body are read as this packet.
pub record BeginsWithPacket (bytes : List ℕ) (entry : Entry) : Type 0 where
  pub first : ℕ
  pub start : ℕ
  pub end : ℕ
  pub cut : cut_of bytes ≡ Frame first start end
  pub read : decoded first (take (end - start) (drop start bytes)) ≡ Ok entry

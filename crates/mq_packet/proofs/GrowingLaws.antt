-- A vector that has no room for a part of some bytes, once those before it are written, had none for all of them.
use Rattle.std.proofs.Common.{◌≡◌, ℕ, ◌+◌, ◌<◌, ◌≤◌, ◌↔◌, ◌⊎◌, true, ◌&&◌, List, [], ◌∷◌, ◌++◌, length, Result, Ok, Err, refl, ap, arith, length-append}
use Rattle.std.specs.Prelude.{nat_le, not, OnErr, IfErr, IsOk}
use Rattle.std.proofs.lemmas.Bool.{and_parts, leb-true, not-true}
use Rattle.mq_wire.specs.declared.fault.PutFault.{PutFault}
use Rattle.mq_wire.specs.declared.fault.PutFault.TheVariants.{TooLong, Nul, Memory}
use Rattle.mq_wire.specs.Spellings.{text_spelling, binary_spelling, varint_spelling, has_nul}
use Rattle.mq_wire.proofs.Exports.{counted_room, text_room}
use Rattle.mq_topic.specs.Levels.{is_name}
use Rattle.mq_props.specs.declared.table.Place.TheVariants as places
use Rattle.mq_props.specs.Table.{same_place}
use Rattle.mq_packet.specs.Canonical.{canonical_body, canonical}
use Rattle.mq_packet.specs.Entries.{Entry, ConnectFields, PublishFields, WillFields}
use Rattle.mq_packet.specs.Growing.{LacksRoom}
use Rattle.mq_packet.specs.Formats.{names_topic}
use Rattle.mq_packet.specs.Valid.{is_text, is_binary, if_there, fits_qos, valid_will, valid_connect, valid_publish}

-- at the first part
pub lacks_first : (capacity : ℕ) (held first rest : List ℕ) → LacksRoom capacity held first → LacksRoom capacity held (first ++ rest)
lacks_first capacity held first rest lacks = record { is = omega (arith, lacks.is, length-append first rest) }

-- after the first part
pub lacks_after : (capacity more : ℕ) (held trailing first rest : List ℕ) → trailing ≡ held ++ first → capacity ≤ more → LacksRoom more trailing rest → LacksRoom capacity held (first ++ rest)
lacks_after capacity more held trailing first rest is le lacks =
    record { is = omega (arith, ap length is, length-append held first, length-append first rest, le, lacks.is) }

-- at a byte
pub lacks_byte : (capacity byte : ℕ) (held rest : List ℕ) → LacksRoom capacity held (byte ∷ []) → LacksRoom capacity held (byte ∷ rest)
lacks_byte capacity byte held rest lacks = record { is = omega (arith, lacks.is) }

-- after a byte
pub lacks_after_byte : (capacity more byte : ℕ) (held trailing rest : List ℕ) → trailing ≡ held ++ byte ∷ [] → capacity ≤ more → LacksRoom more trailing rest → LacksRoom capacity held (byte ∷ rest)
lacks_after_byte capacity more byte held trailing rest is le lacks =
    record { is = omega (arith, ap length is, length-append held (byte ∷ []), le, lacks.is) }

-- ---- the fields

pub bytes_lack : (result : Result (Unit {0}) PutFault) (capacity size : ℕ) (held bytes : List ℕ) → OnErr result (capacity < size + length bytes) → size ≡ length held → OnErr result (LacksRoom capacity held bytes)
bytes_lack (Ok u) capacity size held bytes lacks is = tt
bytes_lack (Err fault) capacity size held bytes lacks is = record { is = omega (arith, is, lacks) }

counted_lack : (result : Result (Unit {0}) PutFault) (capacity size count : ℕ) (held bytes : List ℕ) → OnErr result (capacity < size + count) → size ≡ length held → count ≡ length bytes → OnErr result (LacksRoom capacity held bytes)
counted_lack (Ok u) capacity size count held bytes lacks is same = tt
counted_lack (Err fault) capacity size count held bytes lacks is same = record { is = omega (arith, is, same, lacks) }

pub number_lacks : (result : Result (Unit {0}) PutFault) (capacity size count : ℕ) (held bytes : List ℕ) → IfErr result (λ fault. (fault ≡ Memory) × (capacity < size + count)) → size ≡ length held → count ≡ length bytes
    → OnErr result (LacksRoom capacity held bytes)
number_lacks (Ok u) capacity size count held bytes memory is same = tt
number_lacks (Err fault) capacity size count held bytes memory is same = record { is = omega (arith, is, same, memory.1) }

pub length_lacks : (result : Result (Unit {0}) PutFault) (capacity size number : ℕ) (held : List ℕ) → ((result ≡ Err TooLong) ↔ (268435455 < number))
    → IfErr result (λ fault. (fault ≡ TooLong) ⊎ ((fault ≡ Memory) × (capacity < size + length (varint_spelling number)))) → size ≡ length held → number ≤ 268435455 → OnErr result (LacksRoom capacity held (varint_spelling number))
length_lacks result capacity size number held long memory is le =
    bytes_lack result capacity size held (varint_spelling number) (counted_room capacity (size + length (varint_spelling number)) result 268435455 number long memory le) is

pub binary_lacks : (result : Result (Unit {0}) PutFault) (capacity size : ℕ) (held bytes : List ℕ) → ((result ≡ Err TooLong) ↔ (65535 < length bytes))
    → IfErr result (λ fault. (fault ≡ TooLong) ⊎ ((fault ≡ Memory) × (capacity < size + (2 + length bytes)))) → size ≡ length held → is_binary bytes ≡ true → OnErr result (LacksRoom capacity held (binary_spelling bytes))
binary_lacks result capacity size held bytes long memory is good =
    counted_lack result capacity size (2 + length bytes) held (binary_spelling bytes) (counted_room capacity (size + (2 + length bytes)) result 65535 (length bytes) long memory (leb-true (length bytes) 65535 good)) is (omega arith)

pub text_lacks : (result : Result (Unit {0}) PutFault) (capacity size : ℕ) (held text : List ℕ) → ((result ≡ Err TooLong) ↔ (65535 < length text)) → ((result ≡ Err Nul) ↔ ((length text ≤ 65535) × (has_nul text ≡ true)))
    → (result ≡ Err Memory → capacity < size + (2 + length text)) → size ≡ length held → is_text text ≡ true → OnErr result (LacksRoom capacity held (text_spelling text))
text_lacks result capacity size held text long nul memory is good =
    (let parts : (nat_le (length text) 65535 ≡ true) × (not (has_nul text) ≡ true) = and_parts (nat_le (length text) 65535) (not (has_nul text)) good in
    counted_lack result capacity size (2 + length text) held (text_spelling text) (text_room capacity (size + (2 + length text)) result (length text) (has_nul text) long nul memory (leb-true (length text) 65535 parts.0) (not-true (has_nul text) parts.1)) is (omega arith))

-- ---- what a valid packet says of its fields

pub will_texts : (will : WillFields) → valid_will will ≡ true → (is_text will.topic ≡ true) × (is_binary will.payload ≡ true)
unfolding valid_will
will_texts will valid =
    (let one : (same_place will.properties.place places.Will ≡ true) × ((is_text will.topic && is_binary will.payload) ≡ true) = and_parts _ _ valid in
    and_parts (is_text will.topic) (is_binary will.payload) one.1)

pub publish_topic : (fields : PublishFields) → valid_publish fields ≡ true → is_text fields.topic ≡ true
unfolding valid_publish
publish_topic fields valid =
    (let one : (same_place fields.properties.place places.Publish ≡ true) × ((fits_qos fields.duplicate fields.qos fields.identifier && (is_text fields.topic && (is_name fields.topic && names_topic fields.topic fields.properties.items))) ≡ true) = and_parts _ _ valid in
    let two : (fits_qos fields.duplicate fields.qos fields.identifier ≡ true) × ((is_text fields.topic && (is_name fields.topic && names_topic fields.topic fields.properties.items)) ≡ true) = and_parts _ _ one.1 in
    let three : (is_text fields.topic ≡ true) × ((is_name fields.topic && names_topic fields.topic fields.properties.items) ≡ true) = and_parts _ _ two.1 in
    three.0)

pub record ConnectTexts (fields : ConnectFields) : Type 0 where
  pub client_identifier : is_text fields.client_identifier ≡ true
  pub will : if_there valid_will fields.will ≡ true
  pub user_name : if_there is_text fields.user_name ≡ true
  pub password : if_there is_binary fields.password ≡ true

pub connect_texts : (fields : ConnectFields) → valid_connect fields ≡ true → ConnectTexts fields
unfolding valid_connect
connect_texts fields valid =
    (let one : (same_place fields.properties.place places.Connect ≡ true) × ((is_text fields.client_identifier && (if_there valid_will fields.will && (if_there is_text fields.user_name && if_there is_binary fields.password))) ≡ true) = and_parts _ _ valid in
    let two : (is_text fields.client_identifier ≡ true) × ((if_there valid_will fields.will && (if_there is_text fields.user_name && if_there is_binary fields.password)) ≡ true) = and_parts _ _ one.1 in
    let three : (if_there valid_will fields.will ≡ true) × ((if_there is_text fields.user_name && if_there is_binary fields.password) ≡ true) = and_parts _ _ two.1 in
    let four : (if_there is_text fields.user_name ≡ true) × (if_there is_binary fields.password ≡ true) = and_parts _ _ three.1 in
    record { client_identifier = two.0; will = three.0; user_name = four.0; password = four.1 })

-- where there is room, nothing is refused
pub room_enough : (result : Result (Unit {0}) PutFault) (capacity size : ℕ) (held bytes : List ℕ) → OnErr result (LacksRoom capacity held bytes) → size ≡ length held → size + length bytes ≤ capacity → IsOk result
room_enough (Ok u) capacity size held bytes lacks is le = refl
room_enough (Err fault) capacity size held bytes lacks is le = absurd (omega (arith, lacks.is, is, le))

-- how long a packet is whose body has this length
pub written_length : (entry : Entry) (len front : ℕ) → len ≡ length (canonical_body entry) → front ≡ length (varint_spelling len) → 1 + front + len ≡ length (canonical entry)
unfolding canonical
written_length entry len front is is_front =
    omega (arith, is, is_front, ap (λ (n : ℕ). length (varint_spelling n)) is, length-append (varint_spelling (length (canonical_body entry))) (canonical_body entry))

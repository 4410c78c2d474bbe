-- A packet that keeps no length of its body has only one: that of the body that is written of it.
use Rattle.std.proofs.Common.{◌≡◌, ℕ, suc, ◌+◌, Bool, true, false, List, [], ◌∷◌, length, drop, Option, Some, None, Result, Ok, Err, refl, sym, ◌∙◌, ap, subst, arith, length-append, length-drop}
use Rattle.std.specs.Prelude.{◌==◌, if◌then◌else◌, sum, IfOk, unwrap_or, bit_and, bytes_eq, codes}
use Rattle.std.proofs.lemmas.Bool.{le-leb}
use Rattle.std.proofs.lemmas.Slice.Eq.{bytes_eq-Decides}
use Rattle.mq_wire.specs.declared.fault.Reason.{Reason}
use Rattle.mq_wire.specs.declared.fault.Reason.TheVariants as reasons
use Rattle.mq_wire.specs.Fields.{varint_at}
use Rattle.mq_wire.specs.Spellings.{AreBytes, IsVarint, BeginsWith, text_spelling, binary_spelling, two_bytes_spelling, varint_spelling}
use Rattle.mq_wire.proofs.Exports.{varint_exact}
use Rattle.mq_wire.specs.Left.{Gives}
use Rattle.mq_props.specs.declared.table.Place.TheVariants as places
use Rattle.mq_packet.specs.declared.packet.Packet.{Packet}
use Rattle.mq_packet.specs.declared.packet.Packet.TheVariants as packets
use Rattle.mq_packet.specs.declared.packet.Publish.{Publish}
use Rattle.mq_packet.specs.declared.packet.Qos.{Qos}
use Rattle.mq_packet.specs.declared.packet.Qos.TheVariants.{AtMostOnce, AtLeastOnce, ExactlyOnce}
use Rattle.mq_packet.specs.declared.packet.PacketType.{PacketType}
use Rattle.mq_packet.specs.declared.packet.PacketType.TheVariants as types
use Rattle.mq_packet.specs.declared.packet.AcknowledgementKind.{AcknowledgementKind}
use Rattle.mq_packet.specs.declared.packet.AcknowledgementKind.TheVariants as acknowledgements
use Rattle.mq_packet.specs.declared.packet.ReasonPacketKind.{ReasonPacketKind}
use Rattle.mq_packet.specs.declared.packet.ReasonPacketKind.TheVariants as endings
use Rattle.mq_packet.specs.declared.packet.RequestKind.{RequestKind}
use Rattle.mq_packet.specs.declared.packet.RequestKind.TheVariants as requests
use Rattle.mq_packet.specs.declared.rule.PacketRule.TheVariants as rules
use Rattle.mq_packet.specs.declared.fault.DecodeFault.{DecodeFault}
use Rattle.mq_packet.specs.declared.header.FixedHeader.{FixedHeader}
use Rattle.mq_packet.specs.declared.header.FixedHeader.TheVariants.{Whole}
use Rattle.mq_packet.specs.Entries.{Entry, connect, connack, publish, acknowledgement, request, answer, pingreq, pingresp, disconnect, auth, WillFields, ConnectFields, PublishFields, AskedFilter, listed}
use Rattle.mq_packet.specs.Formats.{Kind, text, binary, ValueOf, Format, done, rest, all_codes, all_filters, bad_first_byte, field, at_end, field_if, will_if, has_bits, qos_of, connect_format, connack_format, publish_from, publish_unacknowledged, publish_acknowledged, publish_format, acknowledgement_format, identified, request_format, answer_format, reason_packet_format, format_of, format_by_type}
use Rattle.mq_packet.specs.Asking.{filters_spelling}
use Rattle.mq_packet.specs.FirstBytes.{flags_in}
use Rattle.mq_packet.specs.Canonical.{list_spelling, spelling_if, will_spelling, connect_body, connack_body, publish_body, request_body, answer_body}
use Rattle.mq_packet.specs.Spelled.{spelling, Spells, IsSpelled}
use Rattle.mq_packet.specs.Stream.{header_with, fixed_header_of}
use Rattle.mq_packet.specs.Reading.{view, HasReadLen}
use Rattle.mq_packet.specs.Decoding.{decoded}
use Rattle.mq_packet.specs.Sizes.{remaining_length, size_with}
use Rattle.mq_packet.proofs.SizeLaws.{will_length, connect_length, connack_length, publish_length, request_length, answer_length}
use Rattle.mq_packet.proofs.ValueLaws.{not_objected}
use Rattle.mq_packet.proofs.FirstByteLaws.{each_first}
use Rattle.mq_packet.proofs.Readings.{packet_given}

-- A body of this packet that has n bytes has as many as the one that is written of it, where the packet doesn't keep how many
-- it had.
abbrev HasLength : ℕ → Entry → Type 0
HasLength n (connect fields) = n ≡ length (connect_body fields)
HasLength n (connack session_present code list) = n ≡ length (connack_body session_present code list.items)
HasLength n (publish fields) = n ≡ length (publish_body fields)
HasLength n (acknowledgement kind identifier code list) = Unit {0}
HasLength n (request kind identifier list filters) = n ≡ length (request_body identifier list.items filters)
HasLength n (answer kind identifier list reasons) = n ≡ length (answer_body identifier list.items reasons)
HasLength n pingreq = n ≡ 0
HasLength n pingresp = n ≡ 0
HasLength n (disconnect code list) = Unit {0}
HasLength n (auth code list) = Unit {0}

-- After n bytes of a body, the fields of the format make it that long, whatever their values are.
abbrev Measures : Format → ℕ → Type 0
Measures (done packet) n = HasLength n packet
Measures (rest packet) n = (bytes : List ℕ) → HasLength (n + length bytes) (packet bytes)
Measures (all_codes table packet) n = (reasons : List ℕ) → HasLength (n + length reasons) (packet reasons)
Measures (all_filters asks packet) n = (filters : List AskedFilter) → HasLength (n + length (filters_spelling filters)) (packet filters)
Measures (bad_first_byte rule) n = Unit {0}
Measures (field kind objection next) n = (value : ValueOf kind) → objection value ≡ None → Measures (next value) (n + length (spelling kind value))
Measures (at_end whole more) n = Measures whole n × Measures more n

-- The same after as many bytes.
measured_at : (format : Format) (m n : ℕ) → m ≡ n → Measures format m → Measures format n
measured_at format m n e h = subst (λ (k : ℕ). Measures format k) e h

length_at : (entry : Entry) (m n : ℕ) → m ≡ n → HasLength m entry → HasLength n entry
length_at entry m n e h = subst (λ (k : ℕ). HasLength k entry) e h

-- What is spelled by such a format has that length.
measured : (format : Format) (n : ℕ) (bytes : List ℕ) (entry : Entry) → Measures format n → Spells format bytes entry → HasLength (n + length bytes) entry
measured (done packet) n bytes entry h spelled =
    length_at entry n (n + length bytes) (omega (arith, ap (length {A = ℕ}) spelled.0)) (subst (λ (p : Entry). HasLength n p) spelled.1 h)
measured (rest packet) n bytes entry h spelled = subst (λ (p : Entry). HasLength (n + length bytes) p) spelled (h bytes)
measured (all_codes table packet) n bytes entry h spelled = subst (λ (p : Entry). HasLength (n + length bytes) p) spelled.1 (h bytes)
measured (all_filters asks packet) n bytes entry h spelled =
    subst (λ (l : List ℕ). HasLength (n + length l) entry) (sym spelled.2) (subst (λ (p : Entry). HasLength (n + length (filters_spelling spelled.0)) p) spelled.3 (h spelled.0))
measured (bad_first_byte rule) n bytes entry h spelled = absurd spelled
measured (field kind objection next) n bytes entry h spelled =
    (let whole : length bytes ≡ length (spelling kind spelled.0) + length spelled.1 = ap (length {A = ℕ}) spelled.2.spelled ∙ length-append (spelling kind spelled.0) spelled.1 in
    length_at entry (n + length (spelling kind spelled.0) + length spelled.1) (n + length bytes) (omega (arith, whole))
    (measured (next spelled.0) (n + length (spelling kind spelled.0)) spelled.1 entry (h spelled.0 spelled.3) spelled.4))
measured (at_end whole more) n [] entry h spelled = measured whole n [] entry h.0 spelled
measured (at_end whole more) n (b ∷ bytes) entry h spelled = measured more n (b ∷ bytes) entry h.1 spelled

-- ---- fields that may be missing

field_if_measured : (flag : Bool) (kind : Kind) (next : Option (ValueOf kind) → Format) (n : ℕ) → ((value : Option (ValueOf kind)) → Measures (next value) (n + length (spelling_if (spelling kind) value)))
    → Measures (field_if flag kind next) n
field_if_measured false kind next n h = measured_at (next None) (n + 0) n (omega arith) (h None)
field_if_measured true kind next n h = λ value _. h (Some value)

will_if_measured : (flag : Bool) (flags : ℕ) (next : Option WillFields → Format) (n : ℕ) → ((will : Option WillFields) → Measures (next will) (n + length (spelling_if will_spelling will)))
    → Measures (will_if flag flags next) n
will_if_measured false flags next n h = measured_at (next None) (n + 0) n (omega arith) (h None)
will_if_measured true flags next n h = λ list _ topic _ payload _.
    (let will : WillFields = record { qos = qos_of 8 (bit_and flags 24); retain = has_bits 32 flags; properties = listed places.Will list; topic = topic; payload = payload } in
    measured_at (next (Some will)) (n + length (will_spelling will)) (n + length (list_spelling list) + length (text_spelling topic) + length (binary_spelling payload)) (omega (arith, will_length will)) (h (Some will)))

-- ---- CONNECT, CONNACK and PUBLISH

connect_measured : Measures connect_format 0
connect_measured = λ name is_name version _ flags _ keep_alive _ list _ client _.
    (let four : length name ≡ 4 = ap (length {A = ℕ}) ((bytes_eq-Decides name (codes "MQTT")).0 (not_objected (bytes_eq name (codes "MQTT")) rules.W18 is_name)) in
    will_if_measured (has_bits 4 flags) flags _ _ (λ will.
    field_if_measured (has_bits 128 flags) text _ _ (λ user_name.
    field_if_measured (has_bits 64 flags) binary _ _ (λ password.
    (let fields : ConnectFields = record { clean_start = has_bits 2 flags; keep_alive = keep_alive; properties = listed places.Connect list; client_identifier = client; will = will; user_name = user_name; password = password } in
    let whole : sum (10 ∷ length (list_spelling list) ∷ length (text_spelling client) ∷ length (spelling_if will_spelling will) ∷ 0 ∷ 0 ∷ length (spelling_if text_spelling user_name) ∷ length (spelling_if binary_spelling password) ∷ []) ≡ length (connect_body fields) =
    connect_length fields (length (list_spelling list)) (length (text_spelling client)) (length (spelling_if will_spelling will)) 0 0 (length (spelling_if text_spelling user_name)) (length (spelling_if binary_spelling password)) refl refl (omega arith) refl refl in
    omega (arith, four, whole))))))

connack_measured : Measures connack_format 0
connack_measured = λ flags _ code _ list _. connack_length (flags == 1) code list (length (list_spelling list)) refl

publish_from_measured : (duplicate : Bool) (qos : Qos) (retain : Bool) (topic : List ℕ) (identifier : Option ℕ) (n : ℕ) → n ≡ length (text_spelling topic) + length (spelling_if two_bytes_spelling identifier)
    → Measures (publish_from duplicate qos retain topic identifier) n
publish_from_measured duplicate qos retain topic identifier n is = λ list _ payload.
    (let fields : PublishFields = record { duplicate = duplicate; qos = qos; retain = retain; topic = topic; identifier = identifier; properties = listed places.Publish list; payload = payload } in
    let whole : sum (length (text_spelling topic) ∷ length (spelling_if two_bytes_spelling identifier) ∷ length (list_spelling list) ∷ length payload ∷ []) ≡ length (publish_body fields) =
    publish_length fields (length (text_spelling topic)) (length (spelling_if two_bytes_spelling identifier)) (length (list_spelling list)) (length payload) refl refl refl refl in
    omega (arith, is, whole))

unacknowledged_measured : (retain : Bool) → Measures (publish_unacknowledged retain) 0
unacknowledged_measured retain = λ topic _. publish_from_measured false AtMostOnce retain topic None _ (omega arith)

acknowledged_measured : (duplicate : Bool) (qos : Qos) (retain : Bool) → Measures (publish_acknowledged duplicate qos retain) 0
acknowledged_measured duplicate qos retain = λ topic _ identifier _. publish_from_measured duplicate qos retain topic (Some identifier) _ (omega arith)

-- One choice by the first byte.
or_next : (b : Bool) (one two : Format) → Measures one 0 → Measures two 0 → Measures (if b then one else two) 0
or_next true one two h k = h
or_next false one two h k = k

publish_measured : (first : ℕ) → Measures (publish_format first) 0
publish_measured first =
    or_next (bit_and first 6 == 0) _ _ (or_next (has_bits 8 first) (bad_first_byte rules.W08) (publish_unacknowledged (has_bits 1 first)) tt (unacknowledged_measured (has_bits 1 first))) (
    or_next (bit_and first 6 == 2) _ _ (acknowledged_measured (has_bits 8 first) AtLeastOnce (has_bits 1 first)) (
    or_next (bit_and first 6 == 4) (publish_acknowledged (has_bits 8 first) ExactlyOnce (has_bits 1 first)) (bad_first_byte rules.W07) (acknowledged_measured (has_bits 8 first) ExactlyOnce (has_bits 1 first)) tt))

-- ---- SUBSCRIBE, UNSUBSCRIBE and their answers

request_measured : (kind : RequestKind) → Measures (request_format kind) 0
unfolding identified
request_measured kind = λ identifier _ list _ filters.
    (let whole : sum (2 ∷ length (list_spelling list) ∷ length (filters_spelling filters) ∷ []) ≡ length (request_body identifier list filters) = request_length identifier list filters (length (list_spelling list)) (length (filters_spelling filters)) refl refl in
    omega (arith, whole))

answer_measured : (kind : RequestKind) → Measures (answer_format kind) 0
unfolding identified
answer_measured kind = λ identifier _ list _ reasons.
    (let whole : sum (2 ∷ length (list_spelling list) ∷ length reasons ∷ []) ≡ length (answer_body identifier list reasons) = answer_length identifier list reasons (length (list_spelling list)) (length reasons) refl refl in
    omega (arith, whole))

-- ---- packets that keep the length of their body

acknowledgement_measured : (kind : AcknowledgementKind) → Measures (acknowledgement_format kind) 0
acknowledgement_measured kind = λ identifier _. (tt, λ code _. (tt, λ list _. tt))

reason_packet_measured : (kind : ReasonPacketKind) → Measures (reason_packet_format kind) 0
reason_packet_measured endings.Disconnect = (tt, λ code _. (tt, λ list _. tt))
reason_packet_measured endings.Auth = (tt, λ code _. (tt, λ list _. tt))

-- ---- any first byte

type_measured : (type : PacketType) (flags : ℕ) → Measures (format_by_type type flags) 0
type_measured types.Connect flags = connect_measured
type_measured types.Connack flags = connack_measured
type_measured types.Publish flags = publish_measured flags
type_measured types.Puback flags = acknowledgement_measured acknowledgements.Puback
type_measured types.Pubrec flags = acknowledgement_measured acknowledgements.Pubrec
type_measured types.Pubrel flags = acknowledgement_measured acknowledgements.Pubrel
type_measured types.Pubcomp flags = acknowledgement_measured acknowledgements.Pubcomp
type_measured types.Subscribe flags = request_measured requests.Subscribe
type_measured types.Suback flags = answer_measured requests.Subscribe
type_measured types.Unsubscribe flags = request_measured requests.Unsubscribe
type_measured types.Unsuback flags = answer_measured requests.Unsubscribe
type_measured types.Pingreq flags = refl
type_measured types.Pingresp flags = refl
type_measured types.Disconnect flags = reason_packet_measured endings.Disconnect
type_measured types.Auth flags = reason_packet_measured endings.Auth

format_measured : (first : ℕ) → Measures (format_of first) 0
format_measured first = each_first (λ format. Measures format 0) first tt tt (λ type _ _. type_measured type (flags_in first))

-- A body that spells a packet has the length that the packet gives.
spelled_length : (first : ℕ) (body : List ℕ) (entry : Entry) → IsSpelled first body entry → HasLength (length body) entry
spelled_length first body entry spelled =
    length_at entry (0 + length body) (length body) (omega arith) (measured (format_of first) 0 body entry (format_measured first) spelled)

-- A packet that keeps the length of its body.
kept : (o : Option ℕ) (n other : ℕ) → o ≡ Some n → unwrap_or o other ≡ n
kept o n other e = ap (λ (x : Option ℕ). unwrap_or x other) e

remaining_read : (packet : Packet) (first : ℕ) (body : List ℕ) → IsSpelled first body (view packet) → HasReadLen (length body) packet → remaining_length packet ≡ length body
remaining_read (packets.Connect p) first body spelled is = sym (spelled_length first body (view (packets.Connect p)) spelled)
remaining_read (packets.Connack p) first body spelled is = sym (spelled_length first body (view (packets.Connack p)) spelled)
remaining_read (packets.Publish p) first body spelled is = sym (spelled_length first body (view (packets.Publish p)) spelled)
remaining_read (packets.Puback p) first body spelled is = kept p.read_len (length body) _ is
remaining_read (packets.Pubrec p) first body spelled is = kept p.read_len (length body) _ is
remaining_read (packets.Pubrel p) first body spelled is = kept p.read_len (length body) _ is
remaining_read (packets.Pubcomp p) first body spelled is = kept p.read_len (length body) _ is
remaining_read (packets.Subscribe p) first body spelled is = sym (spelled_length first body (view (packets.Subscribe p)) spelled)
remaining_read (packets.Suback p) first body spelled is = sym (spelled_length first body (view (packets.Suback p)) spelled)
remaining_read (packets.Unsubscribe p) first body spelled is = sym (spelled_length first body (view (packets.Unsubscribe p)) spelled)
remaining_read (packets.Unsuback p) first body spelled is = sym (spelled_length first body (view (packets.Unsuback p)) spelled)
remaining_read packets.Pingreq first body spelled is = sym (spelled_length first body pingreq spelled)
remaining_read packets.Pingresp first body spelled is = sym (spelled_length first body pingresp spelled)
remaining_read (packets.Disconnect p) first body spelled is = kept p.read_len (length body) _ is
remaining_read (packets.Auth p) first body spelled is = kept p.read_len (length body) _ is

-- A call that gives what is decoded, with the length of the body where a packet keeps it, answers a packet whose Remaining
-- Length is the body's.
pub remaining_given : (result : Result Packet DecodeFault) (first : ℕ) (body : List ℕ) → AreBytes body → Gives view result (decoded first body) → IfOk result (λ packet. HasReadLen (length body) packet)
    → IfOk result (λ packet. remaining_length packet ≡ length body)
remaining_given (Ok packet) first body known given is = remaining_read packet first body (packet_given (Ok packet) first body known given) is
remaining_given (Err fault) first body known given is = tt

-- The same for a PUBLISH, which keeps no length.
pub publish_remaining_given : (result : Result Publish DecodeFault) (first : ℕ) (body : List ℕ) → AreBytes body → Gives (λ publish. view (packets.Publish publish)) result (decoded first body)
    → IfOk result (λ publish. remaining_length (packets.Publish publish) ≡ length body)
publish_remaining_given (Ok p) first body known given = remaining_given (Ok (packets.Publish p)) first body known given refl
publish_remaining_given (Err fault) first body known given = tt

-- The parts of a fixed header.
abbrev header_in : FixedHeader → ℕ
header_in (Whole header size) = header
header_in _ = 0

abbrev size_in : FixedHeader → ℕ
size_in (Whole header size) = size
size_in _ = 0

-- A packet with the Remaining Length of a frame's body has the frame's size.
pub size_of_frame : (frame : List ℕ) (header size : ℕ) (packet : Packet) → AreBytes frame → fixed_header_of frame ≡ Whole header size → length frame ≡ size
    → remaining_length packet ≡ length (drop header frame) → size_with (remaining_length packet) ≡ Some (length frame)
unfolding fixed_header_of
size_of_frame [] header size packet known e exact is = cc
size_of_frame (b ∷ trailing) header size packet known e exact is = by_number (varint_at trailing) refl e
  where
    by_number : (read : Result (ℕ × ℕ) Reason) → varint_at trailing ≡ read → header_with read ≡ Whole header size → size_with (remaining_length packet) ≡ Some (length (b ∷ trailing))
    by_number (Ok x) found h =
        (let stands : BeginsWith IsVarint varint_spelling trailing x.0 x.1 = varint_exact.only trailing x.0 x.1 (λ i. known (suc i)) found in
        let header_is : 1 + x.1 ≡ header = ap header_in h in
        let size_is : 1 + x.1 + x.0 ≡ size = ap size_in h in
        let remaining : remaining_length packet ≡ x.0 = is ∙ omega (arith, length-drop header (b ∷ trailing), header_is, size_is, exact) in
        let whole : 1 + length (varint_spelling x.0) + x.0 ≡ length (b ∷ trailing) = omega (arith, stands.taken, size_is, exact) in
        ap size_with remaining
        ∙ ap (λ (t : Bool). if t then Some (1 + length (varint_spelling x.0) + x.0) else None) (le-leb x.0 268435455 stands.value)
        ∙ ap (λ (k : ℕ). Some k) whole)
    by_number (Err reasons.Overlong) found h = cc
    by_number _ found h = cc

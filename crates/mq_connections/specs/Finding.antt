-- By what is kept of the latest connection: which of C01 to C23 the next event shows to be false, in one pass.
use Rattle.std.specs.Prelude.{ℕ, ◌≡◌, ◌+◌, ◌==◌, nat_lt, nat_le, Bool, true, false, ◌&&◌, ◌||◌, not, cond, List, [], ◌∷◌, length, Option, Some, None, is_some, is_none, unwrap_or, option_map}
use Rattle.std.specs.Option.{option_and_then}
use Rattle.std.specs.List.{list_any}
use Rattle.std.specs.Borrow.{Bor}
use Rattle.std.specs.BTreeSet.{contains, btree_set_len}
use Rattle.std.specs.Ordering.{nat_cmp}
use Rattle.mq_packet.specs.declared.packet.PacketType.{PacketType}
use Rattle.mq_packet.specs.declared.packet.PacketType.TheVariants as types
use Rattle.mq_rules.specs.declared.role.Role.{Role}
use Rattle.mq_rules.specs.declared.role.Role.TheVariants.{Client, Server}
use Rattle.mq_rules.specs.declared.role.Tested.{Tested}
use Rattle.mq_rules.specs.declared.rule.Rule.{Rule}
use Rattle.mq_rules.specs.declared.rule.Rule.TheVariants.{C01, C02, C03, C04, C05, C06, C07, C08, C09, C10, C11, C12, C13, C14, C15, C16, C17, C18, C19, C20, C21, C22, C23}
use Rattle.mq_rules.specs.declared.fate.Fate.{Fate}
use Rattle.mq_rules.specs.declared.note.Note.{Note}
use Rattle.mq_rules.specs.declared.note.Note.TheVariants as notes
use Rattle.mq_rules.specs.declared.note.ItemNote.{ItemNote}
use Rattle.mq_rules.specs.declared.note.ItemNote.TheVariants as items
use Rattle.mq_rules.specs.declared.note.Seen.{Seen}
use Rattle.mq_rules.specs.declared.packet_note.PacketNote.{PacketNote}
use Rattle.mq_rules.specs.declared.packet_note.PacketFields.{PacketFields}
use Rattle.mq_rules.specs.declared.packet_note.PacketFields.TheVariants.{Connect, Connack, Publish, Puback, Pubrec, Pubrel, Pubcomp, Pingreq, Pingresp}
use Rattle.mq_rules.specs.declared.packet_note.PublishNote.{PublishNote}
use Rattle.mq_rules.specs.declared.packet_note.ConnackNote.{ConnackNote}
use Rattle.mq_rules.specs.declared.packet_note.DisconnectNote.{DisconnectNote}
use Rattle.mq_rules.specs.declared.connection_state.ConnectionState.{ConnectionState}
use Rattle.mq_connections.specs.declared.conn.harmless.SendBounds.{SendBounds}
use Rattle.mq_connections.specs.declared.conn.Conn.{Conn}
use Rattle.mq_rules.specs.Words.{is_some_and, is_id, only}
use Rattle.mq_rules.specs.Notes.{is_rest, is_typed, is_of_type, foreign_types, sent_item, sent_packet, sent_publish, sent_connack, sent_disconnect, disconnect_in, may_explain, resumed_by, qos_number}
use Rattle.mq_rules.specs.Moments.{note, some}
use Rattle.mq_rules.specs.Connections.{is_connected, connection}
use Rattle.mq_rules.specs.Pasts.{set_alias}
use Rattle.mq_rules.specs.Burden.{aliases_sent}
use Rattle.mq_rules.specs.Rules.{same_rule}
use Rattle.mq_rules.specs.Keeping.{kept, is_ordinary_in}

-- ---- the Topic Aliases that are set

-- a PUBLISH with a Topic Name and this Topic Alias was sent on the latest connection (MQTT 5.0, section 3.3.2.3.4)
unfoldable pub is_alias_set : List Seen → ℕ → Bool
is_alias_set past alias = some (λ m. is_id alias (set_alias (note m))) (connection past)

-- the Topic Alias that is set, if one is, is none of these
abbrev pub is_another : (ℕ → Bool) → Option ℕ → Bool
is_another aliases set = is_some_and (λ alias. not (aliases alias)) set

-- ---- whether a statement is false at the next event. Each function takes the packet or item that the event is, or None.

-- Maximum Packet Size, Topic Alias Maximum and Maximum QoS, as the peer announced them (MQTT 5.0, sections 3.1.2.11 and 3.2.2.3)
abbrev pub size_limit : Role → ConnectionState → Option ℕ
size_limit Client s = option_and_then (λ a. a.maximum_packet_size) s.connack
size_limit Server s = option_and_then (λ c. c.maximum_packet_size) s.connect

abbrev pub alias_limit : Role → ConnectionState → ℕ
alias_limit Client s = unwrap_or (option_and_then (λ a. a.topic_alias_maximum) s.connack) 0
alias_limit Server s = unwrap_or (option_and_then (λ c. c.topic_alias_maximum) s.connect) 0

abbrev pub qos_limit : ConnectionState → ℕ
qos_limit s = unwrap_or (option_and_then (λ a. a.maximum_qos) s.connack) 2

abbrev pub may_look : Role → ConnectionState → Bool
may_look Client s = is_some s.connack
may_look Server s = true

abbrev pub is_type : PacketType → Option ItemNote → Bool
is_type type item = is_some_and (is_of_type type) item

-- of what is sent: a packet, or bytes that break a rule
abbrev pub finds_C01 : Role → Option ItemNote → Bool
finds_C01 role item = list_any (λ type. is_type type item) (foreign_types role)

abbrev pub finds_C02 : ConnectionState → Option ItemNote → Bool
finds_C02 s item = is_some_and is_typed item && (not (is_type types.Connect item) && not s.has_sent)

abbrev pub finds_C03 : ConnectionState → Option ItemNote → Bool
finds_C03 s item = is_type types.Connect item && s.has_sent_connect

abbrev pub finds_C04 : ConnectionState → Option ItemNote → Bool
finds_C04 s item = is_type types.Connack item && not s.has_received_connect

abbrev pub finds_C05 : ConnectionState → Option ItemNote → Bool
finds_C05 s item = is_some_and is_typed item && (not (is_type types.Connack item || is_type types.Auth item) && not s.has_sent_connack)

abbrev pub finds_C06 : ConnectionState → Option ItemNote → Bool
finds_C06 s item = is_type types.Connack item && s.has_sent_connack

abbrev pub finds_C11 : ConnectionState → Option ItemNote → Bool
finds_C11 s item = is_some_and is_typed item && s.has_sent_disconnect

abbrev pub finds_C12 : ConnectionState → Option ItemNote → Bool
finds_C12 s item = is_some_and is_typed item && s.has_sent_refusal

-- of a packet that is sent
abbrev pub finds_C13 : ConnectionState → Option PacketNote → Bool
finds_C13 s packet = is_some packet && (not (is_some (option_and_then disconnect_in (option_map (λ p. p.fields) packet)))
    && (is_some_and resumed_by s.connack && (is_some_and (λ c. c.clean_start) s.connect || not s.was_alive)))

abbrev pub finds_C14 : Role → ConnectionState → Option PacketNote → Bool
finds_C14 role s packet = is_some_and (λ p. is_some_and (λ most. nat_lt most p.size) (size_limit role s)) packet

abbrev pub finds_C21 : ConnectionState → Option PacketNote → Bool
finds_C21 s packet = is_some_and (λ p. (p.has_reason_string || p.has_user_property) && not (may_explain p.fields)) packet
    && is_some_and (λ c. is_id 0 c.request_problem_information) s.connect

-- of a PUBLISH that is sent; aliases are the Topic Aliases that are set
abbrev pub finds_C15 : Role → ConnectionState → Option PublishNote → Bool
finds_C15 role s publish = may_look role s && is_some_and (λ alias. nat_lt (alias_limit role s) alias) (option_and_then (λ p. p.topic_alias) publish)

abbrev pub finds_C16 : (ℕ → Bool) → Option PublishNote → Bool
finds_C16 aliases publish = is_some_and (λ alias. not (aliases alias)) (option_and_then (λ p. only (length p.topic == 0) p.topic_alias) publish)

abbrev pub finds_C17 : ConnectionState → Option PublishNote → Bool
finds_C17 s publish = is_some_and (λ p. nat_lt (qos_limit s) (qos_number p.qos)) publish

abbrev pub finds_C18 : Option PublishNote → Bool
finds_C18 publish = is_some_and (λ p. p.has_subscription_identifier) publish

-- of a CONNACK that is sent
abbrev pub finds_C07 : ConnectionState → Option ConnackNote → Bool
finds_C07 s connack = is_some_and (λ c. c.session_present) connack && is_some_and (λ c. c.clean_start) s.connect

abbrev pub finds_C08 : ConnectionState → Option ConnackNote → Bool
finds_C08 s connack = is_some_and (λ c. c.session_present) connack && (is_some_and (λ c. c.code == 0) connack && not s.was_alive)

abbrev pub finds_C09 : Option ConnackNote → Bool
finds_C09 connack = is_some_and (λ c. c.session_present) connack && not (is_some_and (λ c. c.code == 0) connack)

abbrev pub finds_C10 : ConnectionState → Option ConnackNote → Bool
finds_C10 s connack = is_some_and (λ c. c.code == 0) connack && (not (is_some_and (λ c. c.has_assigned_identifier) connack) && is_some_and (λ c. c.is_unnamed) s.connect)

abbrev pub finds_C22 : ConnectionState → Option ConnackNote → Bool
finds_C22 s connack = is_some_and (λ c. c.has_response_information) connack && is_some_and (λ c. not (is_id 1 c.request_response_information)) s.connect

-- of a DISCONNECT that is sent
abbrev pub finds_C19 : Option DisconnectNote → Bool
finds_C19 disconnect = is_some_and (λ d. is_some d.session_expiry) disconnect

abbrev pub finds_C20 : ConnectionState → Option DisconnectNote → Bool
finds_C20 s disconnect = is_some_and (λ d. is_some_and (λ seconds. not (seconds == 0)) d.session_expiry) disconnect && is_some_and (λ c. unwrap_or c.session_expiry 0 == 0) s.connect

-- of a REST
abbrev pub has_left : Role → ConnectionState → Bool
has_left Client s = s.has_sent_disconnect
has_left Server s = s.has_sent_disconnect || s.has_sent_refusal

abbrev pub finds_C23 : Role → ConnectionState → Bool → Bool
finds_C23 role s is_rest = is_rest && has_left role s

-- ---- each statement that binds the end, with whether it is false at the event

-- what a reference points to, if there is one
abbrev pub dereferenced : {A : Type 0} → Option (Bor A) → Option A
dereferenced r = option_map (λ b. b.now) r

abbrev pub item_verdicts : Role → ConnectionState → Option ItemNote → List (Rule × Bool)
item_verdicts Client s item = (C01, finds_C01 Client item) ∷ (C02, finds_C02 s item) ∷ (C03, finds_C03 s item) ∷ (C11, finds_C11 s item) ∷ []
item_verdicts Server s item = (C01, finds_C01 Server item) ∷ (C04, finds_C04 s item) ∷ (C05, finds_C05 s item) ∷ (C06, finds_C06 s item) ∷ (C11, finds_C11 s item) ∷ (C12, finds_C12 s item) ∷ []

abbrev pub packet_verdicts : Role → ConnectionState → Option PacketNote → List (Rule × Bool)
packet_verdicts Client s packet = (C13, finds_C13 s packet) ∷ (C14, finds_C14 Client s packet) ∷ []
packet_verdicts Server s packet = (C14, finds_C14 Server s packet) ∷ (C21, finds_C21 s packet) ∷ []

abbrev pub publish_verdicts : Role → ConnectionState → (ℕ → Bool) → Option PublishNote → List (Rule × Bool)
publish_verdicts Client s aliases publish = (C15, finds_C15 Client s publish) ∷ (C16, finds_C16 aliases publish) ∷ (C17, finds_C17 s publish) ∷ (C18, finds_C18 publish) ∷ []
publish_verdicts Server s aliases publish = (C15, finds_C15 Server s publish) ∷ (C16, finds_C16 aliases publish) ∷ []

abbrev pub connack_verdicts : Role → ConnectionState → Option ConnackNote → List (Rule × Bool)
connack_verdicts Client s connack = []
connack_verdicts Server s connack = (C07, finds_C07 s connack) ∷ (C08, finds_C08 s connack) ∷ (C09, finds_C09 connack) ∷ (C10, finds_C10 s connack) ∷ (C22, finds_C22 s connack) ∷ []

abbrev pub disconnect_verdicts : Role → ConnectionState → Option DisconnectNote → List (Rule × Bool)
disconnect_verdicts Client s disconnect = (C20, finds_C20 s disconnect) ∷ []
disconnect_verdicts Server s disconnect = (C19, finds_C19 disconnect) ∷ []

abbrev pub rest_verdicts : Role → ConnectionState → Bool → List (Rule × Bool)
rest_verdicts role s is_rest = (C23, finds_C23 role s is_rest) ∷ []

-- a statement is among these, and false
abbrev pub is_among : List (Rule × Bool) → Rule → Bool
is_among verdicts rule = list_any (λ v. v.1 && same_rule rule v.0) verdicts

-- one of these is false
abbrev pub is_any_broken : List (Rule × Bool) → Bool
is_any_broken verdicts = list_any (λ v. v.1) verdicts

-- a statement is false at the event
abbrev pub is_found : Role → ConnectionState → (ℕ → Bool) → Note → Rule → Bool
is_found role s aliases n rule =
    is_among (item_verdicts role s (sent_item n)) rule
    || (is_among (packet_verdicts role s (sent_packet n)) rule
    || (is_among (publish_verdicts role s aliases (sent_publish n)) rule
    || (is_among (connack_verdicts role s (sent_connack n)) rule
    || (is_among (disconnect_verdicts role s (sent_disconnect n)) rule
    || (is_among (rest_verdicts role s (is_rest n)) rule || false)))))

-- ---- events that are seen at once to break no statement, and to leave what is kept as it is

-- The tested end has begun to send and may go on: it has sent neither a DISCONNECT nor a CONNACK that refuses, a server has sent its CONNACK, and for a client no
-- session was resumed that should not have been.
abbrev pub may_go_on : Role → ConnectionState → Bool
may_go_on Client s = s.has_sent && (not s.has_sent_disconnect && not (is_some_and resumed_by s.connack && (is_some_and (λ c. c.clean_start) s.connect || not s.was_alive)))
may_go_on Server s = s.has_sent && (s.has_sent_connack && (not s.has_sent_disconnect && not s.has_sent_refusal))

-- one byte more than a peer with this Maximum Packet Size takes; no packet has 2^32 bytes
abbrev pub too_large : Option ℕ → ℕ
too_large None = 4294967296
too_large (Some most) = most + 1

-- A packet of fewer bytes can be sent, where its type and fields break nothing; none where the end may not go on.
abbrev pub size_bound : Role → ConnectionState → ℕ
size_bound role s = cond (may_go_on role s) (too_large (size_limit role s)) 0

-- the greatest QoS that the end may send: only a server announces one (MQTT 5.0, section 3.2.2.3.4)
abbrev pub qos_bound : Role → ConnectionState → ℕ
qos_bound Client s = qos_limit s
qos_bound Server s = 2

-- what a packet is compared with
abbrev pub send_bounds : Role → ConnectionState → SendBounds
send_bounds role s = record { role = role; size = size_bound role s; qos = qos_bound role s }

-- a PUBLISH up to this QoS with neither a Topic Alias nor a Subscription Identifier, what acknowledges a PUBLISH, a client's PINGREQ and a server's
-- PINGRESP: what this end may send to any peer
abbrev pub is_harmless_in : Role → ℕ → PacketFields → Bool
is_harmless_in role most (Publish p) = is_none p.topic_alias && (not p.has_subscription_identifier && nat_le (qos_number p.qos) most)
is_harmless_in role most (Puback identifier code) = true
is_harmless_in role most (Pubrec identifier code) = true
is_harmless_in role most (Pubrel identifier code) = true
is_harmless_in role most (Pubcomp identifier code) = true
is_harmless_in Client most Pingreq = true
is_harmless_in Server most Pingresp = true
is_harmless_in role most _ = false

-- such a packet is sent, below this size and without a Reason String or a User Property, or an ordinary one is received
abbrev pub is_harmless : SendBounds → Note → Bool
is_harmless b (notes.Sent (items.Packet p)) = nat_lt p.size b.size && (not (p.has_reason_string || p.has_user_property) && is_harmless_in b.role b.qos p.fields)
is_harmless b (notes.Recv (items.Packet p)) = nat_lt 0 b.size && is_ordinary_in p.fields
is_harmless b _ = false

-- ---- what is kept agrees with the events so far

-- These events, the newest first, lead to what is kept.
pub record Agrees (conn : Conn) (tested : Tested) (past : List Seen) : Type 0 where
  pub same_role : conn.role ≡ tested.role
  pub same_state : conn.state ≡ kept tested.role past
  pub same_aliases : (alias : ℕ) → contains nat_cmp conn.aliases alias ≡ is_alias_set past alias

-- The same of a watcher. It keeps the Topic Aliases of the connection that is open alone.
pub record IsConn (conn : Conn) (tested : Tested) (taken : Option Fate) (past : List Seen) : Type 0 where
  pub same_role : conn.role ≡ tested.role
  pub same_bounds : conn.bounds ≡ send_bounds conn.role conn.state
  pub same_state : conn.state ≡ kept tested.role past
  pub same_aliases : (alias : ℕ) → contains nat_cmp conn.aliases alias ≡ (is_connected past && is_alias_set past alias)
  pub as_many : btree_set_len conn.aliases ≡ aliases_sent past

-- Words for short logs, whose faults are computed from the definitions.
use Rattle.std.specs.Prelude.{ℕ, ◌+◌, ◌==◌, Bool, true, false, cond, List, [], ◌∷◌, length, Option, Some, None}
use Rattle.mq_packet.specs.declared.packet.Qos.{Qos}
use Rattle.mq_packet.specs.declared.packet.Qos.TheVariants as quality
use Rattle.mq_packet.specs.declared.rule.PacketRule.{PacketRule}
use Rattle.mq_rules.specs.declared.role.Role.TheVariants.{Client, Server}
use Rattle.mq_rules.specs.declared.role.Tested.{Tested}
use Rattle.mq_rules.specs.declared.rule.Rule.{Rule}
use Rattle.mq_rules.specs.declared.note.Note.{Note}
use Rattle.mq_rules.specs.declared.note.Note.TheVariants as notes
use Rattle.mq_rules.specs.declared.note.ItemNote.TheVariants as items
use Rattle.mq_rules.specs.declared.note.Seen.{Seen}
use Rattle.mq_rules.specs.declared.packet_note.PacketNote.{PacketNote}
use Rattle.mq_rules.specs.declared.packet_note.PacketFields.{PacketFields}
use Rattle.mq_rules.specs.declared.packet_note.PacketFields.TheVariants.{Connect, Connack, Publish, Subscribe, Unsubscribe, Disconnect, Auth}
use Rattle.mq_rules.specs.declared.packet_note.ConnectNote.{ConnectNote}
use Rattle.mq_rules.specs.Rules.{all_further, none_further, without_times}
use Rattle.mq_rules.specs.Statements.{fails}
use Rattle.mq_rules.specs.Wishes.{nothing_wished}
use Rattle.mq_rules.specs.Occasions.{applies}

-- ---- logs

-- each end, with releases recorded
abbrev pub client : Tested
client = record { role = Client; releases = true; further = none_further }

abbrev pub server : Tested
server = record { role = Server; releases = true; further = none_further }

-- a client whose releases aren't recorded
abbrev pub client_unrecorded : Tested
client_unrecorded = record { role = Client; releases = false; further = none_further }

-- a log with these events after it, each in a record of its own
abbrev pub with_events : List Seen → List Note → List Seen
with_events past [] = past
with_events past (n ∷ ns) = with_events (record { place = record { position = length past + 1; record_no = length past + 1; moment = 0 }; note = n } ∷ past) ns

-- the log of these events, which are given in their order
abbrev pub log_of : List Note → List Seen
log_of ns = with_events [] ns

-- a log with these events after it, each at a moment, in microseconds, and in a record of its own
abbrev pub with_timed_events : List Seen → List (ℕ × Note) → List Seen
with_timed_events past [] = past
with_timed_events past (n ∷ ns) = with_timed_events (record { place = record { position = length past + 1; record_no = length past + 1; moment = n.0 }; note = n.1 } ∷ past) ns

-- the log of these events, with their moments, which are given in their order
abbrev pub timed_log_of : List (ℕ × Note) → List Seen
timed_log_of ns = with_timed_events [] ns

-- the positions up to the last of these events at which the statement fails in the log, the latest first
abbrev pub failing_at : Tested → Rule → List Seen → List Seen → List ℕ
failing_at tested rule log [] = []
failing_at tested rule log (e ∷ past) = cond (fails tested log (length past + 1) rule) ((length past + 1) ∷ failing_at tested rule log past) (failing_at tested rule log past)

-- all positions of a log at which the statement fails, the latest first
abbrev pub failing : Tested → Rule → List Note → List ℕ
failing tested rule ns = failing_at tested rule (log_of ns) (log_of ns)

-- the positions up to the last of these events at which the statement is put to the test in the log, the latest first
abbrev pub applying_at : Tested → Rule → List Seen → List Seen → List ℕ
applying_at tested rule log [] = []
applying_at tested rule log (e ∷ past) = cond (applies tested log (length past + 1) rule) ((length past + 1) ∷ applying_at tested rule log past) (applying_at tested rule log past)

-- all positions of a log at which the statement is put to the test, the latest first
abbrev pub applying : Tested → Rule → List Note → List ℕ
applying tested rule ns = applying_at tested rule (log_of ns) (log_of ns)

-- the same of events with their moments
abbrev pub failing_timed : Tested → Rule → List (ℕ × Note) → List ℕ
failing_timed tested rule ns = failing_at tested rule (timed_log_of ns) (timed_log_of ns)

abbrev pub applying_timed : Tested → Rule → List (ℕ × Note) → List ℕ
applying_timed tested rule ns = applying_at tested rule (timed_log_of ns) (timed_log_of ns)

-- ---- events

abbrev pub packet_of : ℕ → Bool → PacketFields → PacketNote
packet_of size explains fields = record { size = size; has_reason_string = explains; has_user_property = false; fields = fields }

-- a CLOSE that cut off nothing, one that cut off a PUBLISH of QoS 1 or 2, and one that cut off another packet
abbrev pub Close : Note
Close = notes.Close false false

abbrev pub Cut : Note
Cut = notes.Close true true

abbrev pub CutOther : Note
CutOther = notes.Close false true

-- a packet of 10 bytes that is sent, or received
abbrev pub sends : PacketFields → Note
sends fields = notes.Sent (items.Packet (packet_of 10 false fields))

abbrev pub gets : PacketFields → Note
gets fields = notes.Recv (items.Packet (packet_of 10 false fields))

-- a packet that is sent, of this size; with a Reason String
abbrev pub sends_sized : ℕ → PacketFields → Note
sends_sized size fields = notes.Sent (items.Packet (packet_of size false fields))

abbrev pub sends_explained : PacketFields → Note
sends_explained fields = notes.Sent (items.Packet (packet_of 10 true fields))

-- bytes that break a rule, with this first byte
abbrev pub sends_bad : ℕ → PacketRule → Note
sends_bad first rule = notes.Sent (items.Bad first rule 2 false)

abbrev pub gets_bad : ℕ → PacketRule → Note
gets_bad first rule = notes.Recv (items.Bad first rule 2 false)

-- a stream that is lost
abbrev pub sends_lost : Note
sends_lost = notes.Sent items.Lost

abbrev pub gets_lost : Note
gets_lost = notes.Recv items.Lost

-- the same ends, where the further statements are asked for
abbrev pub client_asked : Tested
client_asked = record { role = Client; releases = true; further = without_times }

abbrev pub server_asked : Tested
server_asked = record { role = Server; releases = true; further = without_times }

-- and where those on times are, too
abbrev pub client_timed : Tested
client_timed = record { role = Client; releases = true; further = all_further }

abbrev pub server_timed : Tested
server_timed = record { role = Server; releases = true; further = all_further }

-- ---- packets

-- with this Clean Start and Session Expiry Interval, and a Client Identifier
abbrev pub connect_with : Bool → Option ℕ → ConnectNote
connect_with clean expiry = record { clean_start = clean; is_unnamed = false; session_expiry = expiry; request_problem_information = None; request_response_information = None; receive_maximum = None; topic_alias_maximum = None; maximum_packet_size = None; keep_alive = 0; will = None; has_authentication_method = false }

-- a session that is begun and kept for a minute; one that is asked for again; one that ends with its connection
abbrev pub lasting : PacketFields
lasting = Connect (connect_with true (Some 60)) None

abbrev pub again : PacketFields
again = Connect (connect_with false (Some 60)) None

abbrev pub fleeting : PacketFields
fleeting = Connect (connect_with true None) None

-- of a client without an identifier
abbrev pub unnamed : PacketFields
unnamed = Connect (record { clean_start = true; is_unnamed = true; session_expiry = None; request_problem_information = None; request_response_information = None; receive_maximum = None; topic_alias_maximum = None; maximum_packet_size = None; keep_alive = 0; will = None; has_authentication_method = false }) None

-- of a client that asks for these: Request Problem Information, Request Response Information, Receive Maximum, Topic Alias Maximum, Maximum Packet Size
abbrev pub asking : Option ℕ → Option ℕ → Option ℕ → Option ℕ → Option ℕ → PacketFields
asking problem response receive aliases size = Connect (record { clean_start = true; is_unnamed = false; session_expiry = Some 60; request_problem_information = problem; request_response_information = response; receive_maximum = receive; topic_alias_maximum = aliases; maximum_packet_size = size; keep_alive = 0; will = None; has_authentication_method = false }) None

-- of one that asks for its session again, with this Maximum Packet Size
abbrev pub asking_again : Option ℕ → PacketFields
asking_again size = Connect (record { clean_start = false; is_unnamed = false; session_expiry = Some 60; request_problem_information = None; request_response_information = None; receive_maximum = None; topic_alias_maximum = None; maximum_packet_size = size; keep_alive = 0; will = None; has_authentication_method = false }) None

-- of one with this Keep Alive, in seconds
abbrev pub kept_alive : ℕ → PacketFields
kept_alive seconds = Connect (record { clean_start = true; is_unnamed = false; session_expiry = Some 60; request_problem_information = None; request_response_information = None; receive_maximum = None; topic_alias_maximum = None; maximum_packet_size = None; keep_alive = seconds; will = None; has_authentication_method = false }) None

-- an Authentication Method, and another
abbrev pub one_method : List ℕ
one_method = 97 ∷ []

abbrev pub other_method : List ℕ
other_method = 98 ∷ []

-- of a client with this Will, and one with an Authentication Method
abbrev pub with_will : Qos → Bool → PacketFields
with_will qos retain = Connect (record { clean_start = true; is_unnamed = false; session_expiry = Some 60; request_problem_information = None; request_response_information = None; receive_maximum = None; topic_alias_maximum = None; maximum_packet_size = None; keep_alive = 0; will = Some (record { qos = qos; retain = retain }); has_authentication_method = false }) None

abbrev pub with_method : PacketFields
with_method = Connect (record { clean_start = true; is_unnamed = false; session_expiry = Some 60; request_problem_information = None; request_response_information = None; receive_maximum = None; topic_alias_maximum = None; maximum_packet_size = None; keep_alive = 0; will = None; has_authentication_method = true }) (Some one_method)

-- with Session Present or not, and this Reason Code
abbrev pub connack_with : Bool → ℕ → PacketFields
connack_with present code = Connack (record { session_present = present; code = code; session_expiry = None; receive_maximum = None; topic_alias_maximum = None; maximum_qos = None; retain_available = None; wildcard_subscription_available = None; subscription_identifier_available = None; shared_subscription_available = None; maximum_packet_size = None; server_keep_alive = None; has_assigned_identifier = false; has_response_information = false; has_authentication_method = false }) None

abbrev pub accepting : PacketFields
accepting = connack_with false 0

abbrev pub resuming : PacketFields
resuming = connack_with true 0

-- with the Reason Code Not authorized
abbrev pub refusing : PacketFields
refusing = connack_with false 135

-- with this Server Keep Alive, in seconds
abbrev pub keeping_alive : ℕ → PacketFields
keeping_alive seconds = Connack (record { session_present = false; code = 0; session_expiry = None; receive_maximum = None; topic_alias_maximum = None; maximum_qos = None; retain_available = None; wildcard_subscription_available = None; subscription_identifier_available = None; shared_subscription_available = None; maximum_packet_size = None; server_keep_alive = Some seconds; has_assigned_identifier = false; has_response_information = false; has_authentication_method = false }) None

-- with these: Session Present, Receive Maximum, Topic Alias Maximum, Maximum QoS, Maximum Packet Size
abbrev pub limiting : Bool → Option ℕ → Option ℕ → Option ℕ → Option ℕ → PacketFields
limiting present receive aliases qos size = Connack (record { session_present = present; code = 0; session_expiry = None; receive_maximum = receive; topic_alias_maximum = aliases; maximum_qos = qos; retain_available = None; wildcard_subscription_available = None; subscription_identifier_available = None; shared_subscription_available = None; maximum_packet_size = size; server_keep_alive = None; has_assigned_identifier = false; has_response_information = false; has_authentication_method = false }) None

-- with Session Present, and this Retain Available
abbrev pub retaining : Option ℕ → PacketFields
retaining available = Connack (record { session_present = true; code = 0; session_expiry = None; receive_maximum = None; topic_alias_maximum = None; maximum_qos = None; retain_available = available; wildcard_subscription_available = None; subscription_identifier_available = None; shared_subscription_available = None; maximum_packet_size = None; server_keep_alive = None; has_assigned_identifier = false; has_response_information = false; has_authentication_method = false }) None

-- with an Assigned Client Identifier, and with Response Information
abbrev pub assigning : PacketFields
assigning = Connack (record { session_present = false; code = 0; session_expiry = None; receive_maximum = None; topic_alias_maximum = None; maximum_qos = None; retain_available = None; wildcard_subscription_available = None; subscription_identifier_available = None; shared_subscription_available = None; maximum_packet_size = None; server_keep_alive = None; has_assigned_identifier = true; has_response_information = false; has_authentication_method = false }) None

abbrev pub informing : PacketFields
informing = Connack (record { session_present = false; code = 0; session_expiry = None; receive_maximum = None; topic_alias_maximum = None; maximum_qos = None; retain_available = None; wildcard_subscription_available = None; subscription_identifier_available = None; shared_subscription_available = None; maximum_packet_size = None; server_keep_alive = None; has_assigned_identifier = false; has_response_information = true; has_authentication_method = false }) None

-- with this Reason Code, Maximum QoS and Retain Available; and with an Authentication Method
abbrev pub announcing : ℕ → Option ℕ → Option ℕ → PacketFields
announcing code qos retain = Connack (record { session_present = false; code = code; session_expiry = None; receive_maximum = None; topic_alias_maximum = None; maximum_qos = qos; retain_available = retain; wildcard_subscription_available = None; subscription_identifier_available = None; shared_subscription_available = None; maximum_packet_size = None; server_keep_alive = None; has_assigned_identifier = false; has_response_information = false; has_authentication_method = false }) None

-- with these of 0 or 1: Retain Available, Wildcard Subscription Available, Subscription Identifier Available and Shared Subscription Available
abbrev pub lacking : Option ℕ → Option ℕ → Option ℕ → Option ℕ → PacketFields
lacking retain wildcards identifiers shares = Connack (record { session_present = false; code = 0; session_expiry = None; receive_maximum = None; topic_alias_maximum = None; maximum_qos = None; retain_available = retain; wildcard_subscription_available = wildcards; subscription_identifier_available = identifiers; shared_subscription_available = shares; maximum_packet_size = None; server_keep_alive = None; has_assigned_identifier = false; has_response_information = false; has_authentication_method = false }) None

abbrev pub naming_method : PacketFields
naming_method = Connack (record { session_present = false; code = 0; session_expiry = None; receive_maximum = None; topic_alias_maximum = None; maximum_qos = None; retain_available = None; wildcard_subscription_available = None; subscription_identifier_available = None; shared_subscription_available = None; maximum_packet_size = None; server_keep_alive = None; has_assigned_identifier = false; has_response_information = false; has_authentication_method = true }) (Some one_method)

-- with another method
abbrev pub naming_other : PacketFields
naming_other = Connack (record { session_present = false; code = 0; session_expiry = None; receive_maximum = None; topic_alias_maximum = None; maximum_qos = None; retain_available = None; wildcard_subscription_available = None; subscription_identifier_available = None; shared_subscription_available = None; maximum_packet_size = None; server_keep_alive = None; has_assigned_identifier = false; has_response_information = false; has_authentication_method = true }) (Some other_method)

-- an AUTH with no Authentication Method, and with this one
abbrev pub auth_alone : PacketFields
auth_alone = Auth None

abbrev pub auth_by : List ℕ → PacketFields
auth_by method = Auth (Some method)

-- a DISCONNECT with this Session Expiry Interval
abbrev pub leaving : Option ℕ → PacketFields
leaving expiry = Disconnect (record { code = 0; session_expiry = expiry })

-- and with this Reason Code
abbrev pub leaving_by : ℕ → PacketFields
leaving_by code = Disconnect (record { code = code; session_expiry = None })

-- a PUBLISH of QoS 0, 1 and 2 on the topic `a`; with DUP or not
abbrev pub at_most_once : PacketFields
at_most_once = Publish (record { identifier = None; qos = quality.AtMostOnce; duplicate = false; retain = false; topic = 97 ∷ []; topic_alias = None; uses_alias = false; has_message_expiry = false; has_subscription_identifier = false; subscription_identifiers = [] })

-- the same with RETAIN 1
abbrev pub retained_at_most_once : PacketFields
retained_at_most_once = Publish (record { identifier = None; qos = quality.AtMostOnce; duplicate = false; retain = true; topic = 97 ∷ []; topic_alias = None; uses_alias = false; has_message_expiry = false; has_subscription_identifier = false; subscription_identifiers = [] })

abbrev pub once : Bool → ℕ → PacketFields
once dup i = Publish (record { identifier = Some i; qos = quality.AtLeastOnce; duplicate = dup; retain = false; topic = 97 ∷ []; topic_alias = None; uses_alias = false; has_message_expiry = false; has_subscription_identifier = false; subscription_identifiers = [] })

abbrev pub exactly : Bool → ℕ → PacketFields
exactly dup i = Publish (record { identifier = Some i; qos = quality.ExactlyOnce; duplicate = dup; retain = false; topic = 97 ∷ []; topic_alias = None; uses_alias = false; has_message_expiry = false; has_subscription_identifier = false; subscription_identifiers = [] })

-- one of QoS 1 and one of QoS 2, with RETAIN 1
abbrev pub retained_once : ℕ → PacketFields
retained_once i = Publish (record { identifier = Some i; qos = quality.AtLeastOnce; duplicate = false; retain = true; topic = 97 ∷ []; topic_alias = None; uses_alias = false; has_message_expiry = false; has_subscription_identifier = false; subscription_identifiers = [] })

abbrev pub retained_exactly : ℕ → PacketFields
retained_exactly i = Publish (record { identifier = Some i; qos = quality.ExactlyOnce; duplicate = false; retain = true; topic = 97 ∷ []; topic_alias = None; uses_alias = false; has_message_expiry = false; has_subscription_identifier = false; subscription_identifiers = [] })

-- that of QoS 1 with RETAIN 1, sent again
abbrev pub retained_again : ℕ → PacketFields
retained_again i = Publish (record { identifier = Some i; qos = quality.AtLeastOnce; duplicate = true; retain = true; topic = 97 ∷ []; topic_alias = None; uses_alias = false; has_message_expiry = false; has_subscription_identifier = false; subscription_identifiers = [] })

-- one of QoS 2 that may expire
abbrev pub expiring : ℕ → PacketFields
expiring i = Publish (record { identifier = Some i; qos = quality.ExactlyOnce; duplicate = false; retain = false; topic = 97 ∷ []; topic_alias = None; uses_alias = false; has_message_expiry = true; has_subscription_identifier = false; subscription_identifiers = [] })

-- one of QoS 0 with a Topic Alias, on this topic; one with a Subscription Identifier
abbrev pub aliased : List ℕ → ℕ → PacketFields
aliased topic alias = Publish (record { identifier = None; qos = quality.AtMostOnce; duplicate = false; retain = false; topic = topic; topic_alias = Some alias; uses_alias = length topic == 0; has_message_expiry = false; has_subscription_identifier = false; subscription_identifiers = [] })

abbrev pub subscribed : PacketFields
subscribed = Publish (record { identifier = None; qos = quality.AtMostOnce; duplicate = false; retain = false; topic = 97 ∷ []; topic_alias = None; uses_alias = false; has_message_expiry = false; has_subscription_identifier = true; subscription_identifiers = 1 ∷ [] })

-- a SUBSCRIBE to `a`, and one to `b`, of a greatest QoS
abbrev pub asks_a : ℕ → ℕ → PacketFields
asks_a i qos = Subscribe i (record { filter = 97 ∷ []; options = qos } ∷ []) nothing_wished

abbrev pub asks_b : ℕ → ℕ → PacketFields
asks_b i qos = Subscribe i (record { filter = 98 ∷ []; options = qos } ∷ []) nothing_wished

-- one to both
abbrev pub asks_both : ℕ → ℕ → ℕ → PacketFields
asks_both i qos other = Subscribe i (record { filter = 97 ∷ []; options = qos } ∷ record { filter = 98 ∷ []; options = other } ∷ []) nothing_wished

-- one to `a` twice
abbrev pub asks_twice : ℕ → PacketFields
asks_twice i = Subscribe i (record { filter = 97 ∷ []; options = 0 } ∷ record { filter = 97 ∷ []; options = 0 } ∷ []) nothing_wished

-- an UNSUBSCRIBE of `a`, of `b`, of both, and of `a` twice
abbrev pub removes_a : ℕ → PacketFields
removes_a i = Unsubscribe i (record { filter = 97 ∷ []; options = 0 } ∷ [])

abbrev pub removes_b : ℕ → PacketFields
removes_b i = Unsubscribe i (record { filter = 98 ∷ []; options = 0 } ∷ [])

abbrev pub removes_both : ℕ → PacketFields
removes_both i = Unsubscribe i (record { filter = 97 ∷ []; options = 0 } ∷ record { filter = 98 ∷ []; options = 0 } ∷ [])

abbrev pub removes_twice : ℕ → PacketFields
removes_twice i = Unsubscribe i (record { filter = 97 ∷ []; options = 0 } ∷ record { filter = 97 ∷ []; options = 0 } ∷ [])

-- a SUBSCRIBE to the shared subscription `$share/g/a`
abbrev pub asks_shared : ℕ → PacketFields
asks_shared i = Subscribe i (record { filter = 36 ∷ 115 ∷ 104 ∷ 97 ∷ 114 ∷ 101 ∷ 47 ∷ 103 ∷ 47 ∷ 97 ∷ []; options = 0 } ∷ []) nothing_wished

-- a SUBSCRIBE that is sent: without any of what follows; with a wildcard; with a Subscription Identifier
abbrev pub asks_plainly : PacketFields
asks_plainly = Subscribe 1 [] nothing_wished

abbrev pub asks_widely : PacketFields
asks_widely = Subscribe 1 [] (record { has_wildcard = true; subscription_identifier = None; has_share = false; has_misnamed_share = false; has_no_local_share = false })

abbrev pub asks_identified : PacketFields
asks_identified = Subscribe 1 [] (record { has_wildcard = false; subscription_identifier = Some 1; has_share = false; has_misnamed_share = false; has_no_local_share = false })

-- one that asks for a shared subscription; whose name is a wildcard; with No Local 1
abbrev pub asks_to_share : PacketFields
asks_to_share = Subscribe 1 [] (record { has_wildcard = false; subscription_identifier = None; has_share = true; has_misnamed_share = false; has_no_local_share = false })

abbrev pub asks_misnamed : PacketFields
asks_misnamed = Subscribe 1 [] (record { has_wildcard = false; subscription_identifier = None; has_share = true; has_misnamed_share = true; has_no_local_share = false })

abbrev pub asks_no_local : PacketFields
asks_no_local = Subscribe 1 [] (record { has_wildcard = false; subscription_identifier = None; has_share = true; has_misnamed_share = false; has_no_local_share = true })

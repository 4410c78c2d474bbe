-- Short logs whose faults are computed from the definitions.
use Rattle.std.proofs.Common.{◌≡◌, ◌-◌, ℕ, refl, Bool, true, false, List, [], ◌∷◌, Some, None}
use Rattle.mq_packet.specs.declared.packet.Qos.TheVariants as quality
use Rattle.mq_rules.specs.declared.role.Role.TheVariants.{Client}
use Rattle.mq_rules.specs.declared.role.Tested.{Tested}
use Rattle.mq_rules.specs.declared.rule.Rule.TheVariants.{S01, E1R}
use Rattle.mq_rules.specs.declared.note.Note.{Note}
use Rattle.mq_rules.specs.declared.note.Note.TheVariants as notes
use Rattle.mq_rules.specs.declared.note.ItemNote.TheVariants as items
use Rattle.mq_rules.specs.declared.note.Seen.{Seen}
use Rattle.mq_rules.specs.declared.packet_note.PacketFields.{PacketFields}
use Rattle.mq_rules.specs.declared.packet_note.PacketFields.TheVariants as fields
use Rattle.mq_rules.specs.Statements.{fails}
use Rattle.mq_rules.specs.Rules.{found_line, lines, line_of, none_further}
use Rattle.mq_rules.specs.Identifiers.{breaks_S01}
use Rattle.mq_rules.specs.Exchanges.{shows_R}
use Rattle.mq_rules.specs.Connections.{is_binding, gives_fate}

abbrev pub sends : PacketFields → Note
sends f = notes.Sent (items.Packet (record { size = 9; has_reason_string = false; has_user_property = false; fields = f }))

abbrev pub gets : PacketFields → Note
gets f = notes.Recv (items.Packet (record { size = 9; has_reason_string = false; has_user_property = false; fields = f }))

abbrev pub connect : PacketFields
connect = fields.Connect (record { clean_start = true; is_unnamed = false; session_expiry = Some 60; request_problem_information = None; request_response_information = None; receive_maximum = None; topic_alias_maximum = None; maximum_packet_size = None; keep_alive = 0; will = None; has_authentication_method = false }) None

abbrev pub connack : Bool → PacketFields
connack present = fields.Connack (record { session_present = present; code = 0; session_expiry = None; receive_maximum = None; topic_alias_maximum = None; maximum_qos = None; retain_available = None; wildcard_subscription_available = None; subscription_identifier_available = None; shared_subscription_available = None; maximum_packet_size = None; server_keep_alive = None; has_assigned_identifier = false; has_response_information = false; has_authentication_method = false }) None

abbrev pub publish : Bool → ℕ → PacketFields
publish dup i = fields.Publish (record { identifier = Some i; qos = quality.AtLeastOnce; duplicate = dup; retain = false; topic = 97 ∷ []; topic_alias = None; uses_alias = false; has_message_expiry = false; has_subscription_identifier = false; subscription_identifiers = [] })

-- the notes of a log, the newest first, at their places
abbrev pub placed : ℕ → List Note → List Seen
placed k [] = []
placed k (n ∷ ns) = record { place = record { position = k; record_no = k; moment = 0 }; note = n } ∷ placed (k - 1) ns

abbrev pub client : Tested
client = record { role = Client; releases = true; further = none_further }

-- two openers under one identifier
abbrev pub twice : List Seen
twice = placed 5 (sends (publish false 1) ∷ sends (publish false 1) ∷ gets (connack false) ∷ sends connect ∷ notes.Open ∷ [])

pub twice_fails : fails client twice 5 S01 ≡ true
unfolding gives_fate fails found_line lines line_of breaks_S01
twice_fails = refl

pub once_passes : fails client twice 4 S01 ≡ false
unfolding gives_fate fails found_line lines line_of breaks_S01
once_passes = refl

-- a PUBLISH that isn't acknowledged at rest
abbrev pub owed : List Seen
owed = placed 5 (notes.Rest ∷ gets (publish false 1) ∷ gets (connack false) ∷ sends connect ∷ notes.Open ∷ [])

pub owed_fails : fails client owed 4 E1R ≡ true
unfolding gives_fate fails found_line lines line_of shows_R is_binding
owed_fails = refl

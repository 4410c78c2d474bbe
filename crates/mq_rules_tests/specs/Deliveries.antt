-- Words for short logs of what is asked for and delivered, beside those of `Worked` in mq_rules.
use Prim.Native.String.{String}
use Rattle.std.specs.Prelude.{ℕ, ◌==◌, Bool, true, false, List, [], ◌∷◌, length, codes, Some, None}
use Rattle.mq_packet.specs.Entries.{AskedFilter}
use Rattle.mq_packet.specs.declared.packet.Qos.TheVariants as quality
use Rattle.mq_rules.specs.declared.text.NotedFilter.{NotedFilter}
use Rattle.mq_rules.specs.declared.packet_note.PacketFields.{PacketFields}
use Rattle.mq_rules.specs.declared.packet_note.PacketFields.TheVariants.{Connack, Publish, Subscribe, Unsubscribe}
use Rattle.mq_rules.specs.Wishes.{wishes_of}

-- ---- what is asked for

-- a Topic Filter, with its Subscription Options: as it is noted, and as the packet has it
abbrev pub noted : String → ℕ → NotedFilter
noted filter options = record { filter = codes filter; options = options }

abbrev pub asked : String → ℕ → AskedFilter
asked filter options = record { filter = codes filter; options = Some options }

-- a SUBSCRIBE to one filter, and to two, with these Subscription Options: QoS in bits 0 and 1, No Local 4, Retain As Published 8, Retain Handling in bits 4 and 5
abbrev pub asks : ℕ → String → ℕ → PacketFields
asks i filter options = Subscribe i (noted filter options ∷ []) (wishes_of None (asked filter options ∷ []))

abbrev pub asks_two : ℕ → String → ℕ → String → ℕ → PacketFields
asks_two i filter options other more = Subscribe i (noted filter options ∷ noted other more ∷ []) (wishes_of None (asked filter options ∷ asked other more ∷ []))

-- the same with the Subscription Identifier 1
abbrev pub asks_with_identifier : ℕ → String → ℕ → PacketFields
asks_with_identifier i filter options = Subscribe i (noted filter options ∷ []) (wishes_of (Some 1) (asked filter options ∷ []))

abbrev pub asks_two_with_identifier : ℕ → String → ℕ → String → ℕ → PacketFields
asks_two_with_identifier i filter options other more = Subscribe i (noted filter options ∷ noted other more ∷ []) (wishes_of (Some 1) (asked filter options ∷ asked other more ∷ []))

-- the same with a Subscription Identifier, which goes first
abbrev pub asks_named : ℕ → ℕ → String → ℕ → PacketFields
asks_named identifier i filter options = Subscribe i (noted filter options ∷ []) (wishes_of (Some identifier) (asked filter options ∷ []))

abbrev pub asks_two_named : ℕ → ℕ → String → ℕ → String → ℕ → PacketFields
asks_two_named identifier i filter options other more = Subscribe i (noted filter options ∷ noted other more ∷ []) (wishes_of (Some identifier) (asked filter options ∷ asked other more ∷ []))

-- an UNSUBSCRIBE of this filter
abbrev pub removes : ℕ → String → PacketFields
removes i filter = Unsubscribe i (noted filter 0 ∷ [])

-- ---- what is delivered

-- a PUBLISH of QoS 0 on this topic, and one with RETAIN 1
abbrev pub delivers : String → PacketFields
delivers topic = Publish (record { identifier = None; qos = quality.AtMostOnce; duplicate = false; retain = false; topic = codes topic; topic_alias = None; uses_alias = false; has_message_expiry = false; has_subscription_identifier = false; subscription_identifiers = [] })

abbrev pub delivers_retained : String → PacketFields
delivers_retained topic = Publish (record { identifier = None; qos = quality.AtMostOnce; duplicate = false; retain = true; topic = codes topic; topic_alias = None; uses_alias = false; has_message_expiry = false; has_subscription_identifier = false; subscription_identifiers = [] })

-- one with these Subscription Identifiers, of which there is some; the same of QoS 1, with DUP or not
abbrev pub delivers_for : String → List ℕ → PacketFields
delivers_for topic identifiers = Publish (record { identifier = None; qos = quality.AtMostOnce; duplicate = false; retain = false; topic = codes topic; topic_alias = None; uses_alias = false; has_message_expiry = false; has_subscription_identifier = true; subscription_identifiers = identifiers })

abbrev pub delivers_once_for : Bool → String → List ℕ → PacketFields
delivers_once_for dup topic identifiers = Publish (record { identifier = Some 1; qos = quality.AtLeastOnce; duplicate = dup; retain = false; topic = codes topic; topic_alias = None; uses_alias = false; has_message_expiry = false; has_subscription_identifier = true; subscription_identifiers = identifiers })

-- one of QoS 0 with these Subscription Identifiers and a Topic Alias, on this topic
abbrev pub aliased_for : List ℕ → ℕ → List ℕ → PacketFields
aliased_for topic alias identifiers = Publish (record { identifier = None; qos = quality.AtMostOnce; duplicate = false; retain = false; topic = topic; topic_alias = Some alias; uses_alias = length topic == 0; has_message_expiry = false; has_subscription_identifier = true; subscription_identifiers = identifiers })

-- a CONNACK that resumes the session, with Subscription Identifier Available 0
abbrev pub resuming_without_identifiers : PacketFields
resuming_without_identifiers = Connack (record { session_present = true; code = 0; session_expiry = None; receive_maximum = None; topic_alias_maximum = None; maximum_qos = None; retain_available = None; wildcard_subscription_available = None; subscription_identifier_available = Some 0; shared_subscription_available = None; maximum_packet_size = None; server_keep_alive = None; has_assigned_identifier = false; has_response_information = false; has_authentication_method = false }) None

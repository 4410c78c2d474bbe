-- The table of properties (MQTT 5.0, 2.2.2.2).
use Rattle.std.specs.Prelude.{ℕ, Bool, ◌&&◌, ◌||◌, List, [], ◌∷◌, map, Option, ◌==◌}
use Rattle.std.specs.List.{find, list_any}
use Rattle.std.specs.Borrow.{Bor}
use Rattle.mq_props.specs.declared.table.Place.{Place}
use Rattle.mq_props.specs.declared.table.Place.TheVariants.{Connect, Will, Connack, Publish, Puback, Pubrec, Pubrel, Pubcomp, Subscribe, Suback, Unsubscribe, Unsuback, Disconnect, Auth}
use Rattle.mq_props.specs.declared.table.ValueType.{ValueType}
use Rattle.mq_props.specs.declared.table.ValueType.TheVariants as types
use Rattle.mq_props.specs.declared.table.Range.{Range}
use Rattle.mq_props.specs.declared.table.Range.TheVariants.{Any, NotZero, ZeroOrOne}
use Rattle.mq_props.specs.Identifiers.{payload_format_indicator, message_expiry_interval, content_type, response_topic, correlation_data, subscription_identifier, session_expiry_interval, assigned_client_identifier, server_keep_alive, authentication_method, authentication_data, request_problem_information, will_delay_interval, request_response_information, response_information, server_reference, reason_string, receive_maximum, topic_alias_maximum, topic_alias, maximum_qos, retain_available, user_property, maximum_packet_size, wildcard_subscription_available, subscription_identifier_available, shared_subscription_available}

-- The places in the order of the source.
abbrev pub place_number : Place → ℕ
place_number Connect = 0
place_number Will = 1
place_number Connack = 2
place_number Publish = 3
place_number Puback = 4
place_number Pubrec = 5
place_number Pubrel = 6
place_number Pubcomp = 7
place_number Subscribe = 8
place_number Suback = 9
place_number Unsubscribe = 10
place_number Unsuback = 11
place_number Disconnect = 12
place_number Auth = 13

-- The two places are the same.
abbrev pub same_place : Place → Place → Bool
same_place p q = place_number p == place_number q

-- A line of the table.
pub record Line : Type 0 where
  -- the Property Identifier
  pub id : ℕ
  -- the type of the value
  pub kind : ValueType
  -- the values of that type that the property may have
  pub range : Range
  -- the lists that it is allowed in
  pub lists : List Place

-- A line as the source has it.
abbrev pub row_view : ℕ × ValueType × Range × Bor (List Place) → Line
row_view row = record { id = row.0; kind = row.1; range = row.2; lists = row.3.now }

-- Several lines as the source has them.
abbrev pub rows_of : List (ℕ × ValueType × Range × Bor (List Place)) → List Line
rows_of rows = map row_view rows

-- A line of these parts.
abbrev pub property_line : ℕ → ValueType → Range → List Place → Line
property_line id kind range lists = record { id = id; kind = kind; range = range; lists = lists }

-- The lines of the table, in the order of the standard. The ranges are those of the sections on each property (3.1.2.11,
-- 3.2.2.3, 3.3.2.3 and 3.8.2.1.2).
unfoldable pub rows : List Line
rows =
    property_line payload_format_indicator types.Byte Any (Publish ∷ Will ∷ [])
    ∷ property_line message_expiry_interval types.FourBytes Any (Publish ∷ Will ∷ [])
    ∷ property_line content_type types.Text Any (Publish ∷ Will ∷ [])
    ∷ property_line response_topic types.Text Any (Publish ∷ Will ∷ [])
    ∷ property_line correlation_data types.Binary Any (Publish ∷ Will ∷ [])
    ∷ property_line subscription_identifier types.Varint NotZero (Publish ∷ Subscribe ∷ [])
    ∷ property_line session_expiry_interval types.FourBytes Any (Connect ∷ Connack ∷ Disconnect ∷ [])
    ∷ property_line assigned_client_identifier types.Text Any (Connack ∷ [])
    ∷ property_line server_keep_alive types.TwoBytes Any (Connack ∷ [])
    ∷ property_line authentication_method types.Text Any (Connect ∷ Connack ∷ Auth ∷ [])
    ∷ property_line authentication_data types.Binary Any (Connect ∷ Connack ∷ Auth ∷ [])
    ∷ property_line request_problem_information types.Byte ZeroOrOne (Connect ∷ [])
    ∷ property_line will_delay_interval types.FourBytes Any (Will ∷ [])
    ∷ property_line request_response_information types.Byte ZeroOrOne (Connect ∷ [])
    ∷ property_line response_information types.Text Any (Connack ∷ [])
    ∷ property_line server_reference types.Text Any (Connack ∷ Disconnect ∷ [])
    ∷ property_line reason_string types.Text Any (Connack ∷ Puback ∷ Pubrec ∷ Pubrel ∷ Pubcomp ∷ Suback ∷ Unsuback ∷ Disconnect ∷ Auth ∷ [])
    ∷ property_line receive_maximum types.TwoBytes NotZero (Connect ∷ Connack ∷ [])
    ∷ property_line topic_alias_maximum types.TwoBytes Any (Connect ∷ Connack ∷ [])
    ∷ property_line topic_alias types.TwoBytes NotZero (Publish ∷ [])
    ∷ property_line maximum_qos types.Byte ZeroOrOne (Connack ∷ [])
    ∷ property_line retain_available types.Byte ZeroOrOne (Connack ∷ [])
    ∷ property_line user_property types.Pair Any (Connect ∷ Will ∷ Connack ∷ Publish ∷ Puback ∷ Pubrec ∷ Pubrel ∷ Pubcomp ∷ Subscribe ∷ Suback ∷ Unsubscribe ∷ Unsuback ∷ Disconnect ∷ Auth ∷ [])
    ∷ property_line maximum_packet_size types.FourBytes NotZero (Connect ∷ Connack ∷ [])
    ∷ property_line wildcard_subscription_available types.Byte ZeroOrOne (Connack ∷ [])
    ∷ property_line subscription_identifier_available types.Byte ZeroOrOne (Connack ∷ [])
    ∷ property_line shared_subscription_available types.Byte ZeroOrOne (Connack ∷ [])
    ∷ []

-- The line of an identifier, if a property has it.
unfoldable pub row_of : ℕ → Option Line
row_of id = find (λ row. row.id == id) rows

-- The property is allowed in the place's list.
abbrev pub is_listed : Place → Line → Bool
is_listed place row = list_any (λ p. same_place p place) row.lists

-- It may be there more than once: a User Property anywhere, and a Subscription Identifier in PUBLISH.
abbrev pub may_repeat : Place → ℕ → Bool
may_repeat place id = (id == user_property) || (id == subscription_identifier) && same_place place Publish

-- The types in the order of the source.
abbrev pub kind_number : ValueType → ℕ
kind_number types.Byte = 0
kind_number types.TwoBytes = 1
kind_number types.FourBytes = 2
kind_number types.Varint = 3
kind_number types.Text = 4
kind_number types.Pair = 5
kind_number types.Binary = 6

-- The identifier is that of a property whose values are of the type.
unfoldable pub has_kind : ValueType → ℕ → Bool
has_kind kind id = list_any (λ row. (kind_number row.kind == kind_number kind) && (row.id == id)) rows

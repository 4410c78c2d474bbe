-- A property of the source as its identifier and its value (MQTT 5.0, 2.2.2.2).
use Rattle.mq_props.specs.declared.prop.Prop.{Prop}
use Rattle.mq_props.specs.declared.prop.Prop.TheVariants as props
use Rattle.mq_props.specs.Identifiers.{payload_format_indicator, message_expiry_interval, content_type, response_topic, correlation_data, subscription_identifier, session_expiry_interval, assigned_client_identifier, server_keep_alive, authentication_method, authentication_data, request_problem_information, will_delay_interval, request_response_information, response_information, server_reference, reason_string, receive_maximum, topic_alias_maximum, topic_alias, maximum_qos, retain_available, user_property, maximum_packet_size, wildcard_subscription_available, subscription_identifier_available, shared_subscription_available}
use Rattle.mq_props.specs.Values.{Property, byte_value, two_bytes_value, four_bytes_value, varint_value, text_value, pair_value, binary_value}

-- The identifier and the value of each.
abbrev pub prop_view : Prop → Property
prop_view (props.PayloadFormatIndicator n) = record { id = payload_format_indicator; value = byte_value n }
prop_view (props.MessageExpiryInterval n) = record { id = message_expiry_interval; value = four_bytes_value n }
prop_view (props.ContentType t) = record { id = content_type; value = text_value t.now }
prop_view (props.ResponseTopic t) = record { id = response_topic; value = text_value t.now }
prop_view (props.CorrelationData bytes) = record { id = correlation_data; value = binary_value bytes.now }
prop_view (props.SubscriptionIdentifier n) = record { id = subscription_identifier; value = varint_value n }
prop_view (props.SessionExpiryInterval n) = record { id = session_expiry_interval; value = four_bytes_value n }
prop_view (props.AssignedClientIdentifier t) = record { id = assigned_client_identifier; value = text_value t.now }
prop_view (props.ServerKeepAlive n) = record { id = server_keep_alive; value = two_bytes_value n }
prop_view (props.AuthenticationMethod t) = record { id = authentication_method; value = text_value t.now }
prop_view (props.AuthenticationData bytes) = record { id = authentication_data; value = binary_value bytes.now }
prop_view (props.RequestProblemInformation n) = record { id = request_problem_information; value = byte_value n }
prop_view (props.WillDelayInterval n) = record { id = will_delay_interval; value = four_bytes_value n }
prop_view (props.RequestResponseInformation n) = record { id = request_response_information; value = byte_value n }
prop_view (props.ResponseInformation t) = record { id = response_information; value = text_value t.now }
prop_view (props.ServerReference t) = record { id = server_reference; value = text_value t.now }
prop_view (props.ReasonString t) = record { id = reason_string; value = text_value t.now }
prop_view (props.ReceiveMaximum n) = record { id = receive_maximum; value = two_bytes_value n }
prop_view (props.TopicAliasMaximum n) = record { id = topic_alias_maximum; value = two_bytes_value n }
prop_view (props.TopicAlias n) = record { id = topic_alias; value = two_bytes_value n }
prop_view (props.MaximumQos n) = record { id = maximum_qos; value = byte_value n }
prop_view (props.RetainAvailable n) = record { id = retain_available; value = byte_value n }
prop_view (props.UserProperty name value) = record { id = user_property; value = pair_value name.now value.now }
prop_view (props.MaximumPacketSize n) = record { id = maximum_packet_size; value = four_bytes_value n }
prop_view (props.WildcardSubscriptionAvailable n) = record { id = wildcard_subscription_available; value = byte_value n }
prop_view (props.SubscriptionIdentifierAvailable n) = record { id = subscription_identifier_available; value = byte_value n }
prop_view (props.SharedSubscriptionAvailable n) = record { id = shared_subscription_available; value = byte_value n }

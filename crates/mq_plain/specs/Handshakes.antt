-- The CONNECT and the CONNACK of the latest connection, and what they say of the peer.
use Rattle.std.specs.Prelude.{ℕ, Bool, true, false, ◌||◌, List, is_some, unwrap_or}
use Rattle.std.specs.Option.{option_and_then}
use Rattle.mq_rules.specs.declared.role.Role.{Role}
use Rattle.mq_rules.specs.declared.role.Role.TheVariants.{Client, Server}
use Rattle.mq_rules.specs.declared.note.Seen.{Seen}
use Rattle.mq_rules.specs.Words.{is_some_and, is_id}
use Rattle.mq_rules.specs.Connections.{connection, first_connect, first_connack}
use Rattle.mq_plain.specs.declared.handshake.Handshake.{Handshake}

-- the first CONNECT from the client, and the first CONNACK from the server, on the latest connection
abbrev pub handshake : Role → List Seen → Handshake
handshake role past = record { connect = first_connect role (connection past); connack = first_connack role (connection past) }

-- the peer's Receive Maximum, 65,535 by default (MQTT 5.0, sections 3.1.2.11.3 and 3.2.2.3.3)
abbrev pub receive_maximum_in : Role → Handshake → ℕ
receive_maximum_in Client h = unwrap_or (option_and_then (λ a. a.receive_maximum) h.connack) 65535
receive_maximum_in Server h = unwrap_or (option_and_then (λ c. c.receive_maximum) h.connect) 65535

-- what comes next counts: for a client only after the CONNACK
abbrev pub counts_after : Role → Handshake → Bool
counts_after Client h = is_some h.connack
counts_after Server h = true

-- the peer announced a Maximum Packet Size or a Maximum QoS, whatever its value
abbrev pub bounds_sending : Role → Handshake → Bool
bounds_sending Client h = is_some_and (λ a. is_some a.maximum_packet_size || is_some a.maximum_qos) h.connack
bounds_sending Server h = is_some_and (λ c. is_some c.maximum_packet_size) h.connect

-- the peer announced that it takes no PUBLISH with RETAIN 1 (MQTT 5.0, section 3.2.2.3.5)
abbrev pub refuses_retained : Role → Handshake → Bool
refuses_retained Client h = is_some_and (λ a. is_id 0 a.retain_available) h.connack
refuses_retained Server h = false

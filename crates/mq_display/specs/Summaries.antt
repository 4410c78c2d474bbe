-- What a line says of a packet, besides its size.
use Rattle.std.specs.Prelude.{ℕ}
use Rattle.mq_packet.specs.declared.packet.AcknowledgementKind.{AcknowledgementKind}
use Rattle.mq_packet.specs.declared.packet.AcknowledgementKind.TheVariants as acknowledgements
use Rattle.mq_packet.specs.declared.packet.RequestKind.{RequestKind}
use Rattle.mq_packet.specs.declared.packet.RequestKind.TheVariants as requests
use Rattle.mq_packet.specs.Entries.{Entry, connect, connack, publish, acknowledgement, request, answer, pingreq, pingresp, disconnect, auth}
use Rattle.mq_display.specs.declared.packet_summary.PacketSummary.{PacketSummary}
use Rattle.mq_display.specs.declared.packet_summary.PacketSummary.TheVariants as summaries

-- what a line says of an acknowledgement (MQTT 5.0, sections 3.4 to 3.7)
abbrev pub acknowledgement_summary : AcknowledgementKind → ℕ → ℕ → PacketSummary
acknowledgement_summary acknowledgements.Puback identifier code = summaries.Puback identifier code
acknowledgement_summary acknowledgements.Pubrec identifier code = summaries.Pubrec identifier code
acknowledgement_summary acknowledgements.Pubrel identifier code = summaries.Pubrel identifier code
acknowledgement_summary acknowledgements.Pubcomp identifier code = summaries.Pubcomp identifier code

-- of a SUBSCRIBE or UNSUBSCRIBE (MQTT 5.0, sections 3.8 and 3.10)
abbrev pub request_summary : RequestKind → ℕ → PacketSummary
request_summary requests.Subscribe identifier = summaries.Subscribe identifier
request_summary requests.Unsubscribe identifier = summaries.Unsubscribe identifier

-- of the answer to one (MQTT 5.0, sections 3.9 and 3.11)
abbrev pub answer_summary : RequestKind → ℕ → PacketSummary
answer_summary requests.Subscribe identifier = summaries.Suback identifier
answer_summary requests.Unsubscribe identifier = summaries.Unsuback identifier

-- of any packet (MQTT 5.0, section 2.1.2)
abbrev pub packet_summary : Entry → PacketSummary
packet_summary (connect fields) = summaries.Connect
packet_summary (connack session_present code properties) = summaries.Connack session_present code
packet_summary (publish fields) = summaries.Publish fields.identifier fields.qos fields.duplicate
packet_summary (acknowledgement kind identifier code properties) = acknowledgement_summary kind identifier code
packet_summary (request kind identifier properties filters) = request_summary kind identifier
packet_summary (answer kind identifier properties codes) = answer_summary kind identifier
packet_summary pingreq = summaries.Pingreq
packet_summary pingresp = summaries.Pingresp
packet_summary (disconnect code properties) = summaries.Disconnect code
packet_summary (auth code properties) = summaries.Auth code

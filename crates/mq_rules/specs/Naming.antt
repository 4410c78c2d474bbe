-- What each statement says, where MQTT 5.0 has it, and which one a code names.
use Rattle.std.specs.Prelude.{ℕ, List, [], codes, Option, option_map}
use Rattle.std.specs.List.{find}
use Rattle.std.specs.Str.{str_eq_ignore_ascii_case}
use Rattle.mq_rules.specs.declared.role.Role.{Role}
use Rattle.mq_rules.specs.declared.role.Role.TheVariants.{Client, Server}
use Rattle.mq_rules.specs.declared.rule.Rule.{Rule}
use Rattle.mq_rules.specs.declared.rule.Rule.TheVariants.{W01, W02, W03, W04, W05, W06, W07, W08, W09, W10, W11, W12, W13, W14, W15, W16, W17, W18, W19, W20, W21, C01, C02, C03, C04, C05, C06, C07, C08, C09, C10, C11, C12, C13, C14, C15, C16, C17, C18, C19, C20, C21, C22, C23, S01, S02, S03, S04, S05, S06, S07, E1A, E1R, E1O, E2A, E2R, E2O, E3A, E3R, E3O, E4A, E4R, E5A, E5R, E6A, E6R, E7R, L1, L2, L3, B01, B02, B03, B04, B05, B06, B07, B08, B09, P01, P02, R01, R02, F01, F02, F03, F04, F05, F06, V03, V04, V06, C24, D01, D02, D03, D05, A01, A02, A03, K01, K02}
use Rattle.mq_rules.specs.Rules.{StatementLine, lines}

-- what a statement says of the tested end
unfoldable pub sentence_of : Rule → List ℕ
sentence_of W01 = codes "The flags of a packet other than PUBLISH are those of its type."
sentence_of W02 = codes "The type isn't 0."
sentence_of W03 = codes "A Variable Byte Integer has at most four bytes, and no more than it needs."
sentence_of W04 = codes "A text is well-formed UTF-8."
sentence_of W05 = codes "A text doesn't contain U+0000."
sentence_of W06 = codes "Each field ends within its packet or list, and no bytes are left over."
sentence_of W07 = codes "The QoS of a PUBLISH isn't 3."
sentence_of W08 = codes "DUP is 0 in a PUBLISH of QoS 0."
sentence_of W09 = codes "A Packet Identifier isn't 0."
sentence_of W10 = codes "A property is known, and allowed in its list."
sentence_of W11 = codes "No property is repeated in a list, except those that may be."
sentence_of W12 = codes "The value of a property is in its range."
sentence_of W13 = codes "A Reason Code is one that its packet may have."
sentence_of W14 = codes "A Topic Name, and the Response Topic of a PUBLISH, has no wildcard."
sentence_of W15 = codes "A Topic Filter is valid."
sentence_of W16 = codes "A SUBSCRIBE or UNSUBSCRIBE has at least one filter."
sentence_of W17 = codes "The Subscription Options have neither Maximum QoS 3 nor Retain Handling 3, and no reserved bit is set."
sentence_of W18 = codes "The Protocol Name is `MQTT`."
sentence_of W19 = codes "The Connect Flags have no reserved bit set, no Will QoS 3, and no Will QoS or Will Retain without a Will."
sentence_of W20 = codes "The Connect Acknowledge Flags have no reserved bit set."
sentence_of W21 = codes "A PUBLISH has a Topic Name or a Topic Alias."
sentence_of C01 = codes "A packet has a type that this end may send."
sentence_of C02 = codes "The first packet that a client sends on a connection is a CONNECT."
sentence_of C03 = codes "A client sends only one CONNECT on a connection."
sentence_of C04 = codes "A server sends a CONNACK only after a CONNECT was received."
sentence_of C05 = codes "Before its CONNACK a server sends no packet other than AUTH."
sentence_of C06 = codes "A server sends only one CONNACK on a connection."
sentence_of C07 = codes "Session Present is 0 if Clean Start was 1."
sentence_of C08 = codes "Session Present is 1 only if the server has a session."
sentence_of C09 = codes "Session Present is 0 in a CONNACK that refuses."
sentence_of C10 = codes "A client whose Client Identifier was empty is assigned one."
sentence_of C11 = codes "After a DISCONNECT no packet is sent, and no bytes that break a rule."
sentence_of C12 = codes "After a CONNACK that refuses a server sends no packet, and no bytes that break a rule."
sentence_of C13 = codes "A client without a session doesn't resume one: after Session Present 1 it sends only a DISCONNECT."
sentence_of C14 = codes "A packet isn't larger than the peer's Maximum Packet Size."
sentence_of C15 = codes "A Topic Alias isn't above the peer's Topic Alias Maximum."
sentence_of C16 = codes "A Topic Alias that stands for a Topic Name was set on this connection."
sentence_of C17 = codes "A PUBLISH isn't sent at a QoS above the server's Maximum QoS."
sentence_of C18 = codes "A client sends no Subscription Identifier in a PUBLISH."
sentence_of C19 = codes "A server sends no Session Expiry Interval in a DISCONNECT."
sentence_of C20 = codes "A DISCONNECT doesn't change a Session Expiry Interval of 0."
sentence_of C21 = codes "A client that asked for none gets a Reason String or User Property only in a PUBLISH, CONNACK or DISCONNECT."
sentence_of C22 = codes "Response Information is sent only if the client asked for it."
sentence_of C23 = codes "An end that sent a DISCONNECT, or a CONNACK that refuses, closes the connection."
sentence_of S01 = codes "A new PUBLISH, SUBSCRIBE or UNSUBSCRIBE takes no Packet Identifier that is in use."
sentence_of S02 = codes "A PUBLISH with DUP 1 was sent before, and isn't acknowledged in its session."
sentence_of S03 = codes "A PUBLISH isn't sent again on the same connection."
sentence_of S04 = codes "A PUBLISH isn't sent again once its PUBREL was sent."
sentence_of S05 = codes "A client sends PUBLISHes again in their original order."
sentence_of S06 = codes "Unacknowledged packets are sent again when a session is resumed."
sentence_of S07 = codes "No more PUBLISHes are in flight than the peer's Receive Maximum."
sentence_of E1A = codes "A PUBACK answers a PUBLISH of QoS 1."
sentence_of E1R = codes "A PUBLISH of QoS 1 is answered by a PUBACK."
sentence_of E1O = codes "A client sends PUBACKs in the order of the PUBLISHes."
sentence_of E2A = codes "A PUBREC answers a PUBLISH of QoS 2."
sentence_of E2R = codes "A PUBLISH of QoS 2 is answered by a PUBREC."
sentence_of E2O = codes "A client sends PUBRECs in the order of the PUBLISHes."
sentence_of E3A = codes "A PUBREL answers a PUBREC that accepts."
sentence_of E3R = codes "A PUBREC that accepts is answered by a PUBREL."
sentence_of E3O = codes "A client sends PUBRELs in the order of the PUBRECs."
sentence_of E4A = codes "A PUBCOMP answers a PUBREL."
sentence_of E4R = codes "A PUBREL is answered by a PUBCOMP."
sentence_of E5A = codes "A SUBACK answers a SUBSCRIBE."
sentence_of E5R = codes "A SUBSCRIBE is answered by a SUBACK."
sentence_of E6A = codes "An UNSUBACK answers an UNSUBSCRIBE."
sentence_of E6R = codes "An UNSUBSCRIBE is answered by an UNSUBACK."
sentence_of E7R = codes "A PINGREQ is answered by a PINGRESP."
sentence_of L1 = codes "Only a QoS 2 message that was received, and whose exchange isn't over, is released."
sentence_of L2 = codes "A QoS 2 message is released once."
sentence_of L3 = codes "A QoS 2 message is released before its PUBCOMP."
sentence_of B01 = codes "A PUBLISH from the server matches a subscription."
sentence_of B02 = codes "A PUBLISH from the server isn't at a QoS above what was granted."
sentence_of B03 = codes "A SUBACK has a Reason Code for each filter."
sentence_of B04 = codes "An UNSUBACK has a Reason Code for each filter."
sentence_of B05 = codes "A SUBACK grants no more than was asked for."
sentence_of B06 = codes "No UNSUBACK says of a subscription that it doesn't exist."
sentence_of B07 = codes "No UNSUBACK says that a filter was deleted which was never subscribed."
sentence_of B08 = codes "A PUBLISH from the server matches a subscription, where some are shared."
sentence_of B09 = codes "A PUBLISH isn't at a QoS above what was granted, where some are shared."
sentence_of P01 = codes "A Subscription Identifier of a PUBLISH is that of a matching subscription."
sentence_of P02 = codes "A PUBLISH has a Subscription Identifier, if each matching subscription has."
sentence_of R01 = codes "RETAIN is 0 where no matching subscription asks for anything else."
sentence_of R02 = codes "No retained message is sent for a shared subscription."
sentence_of F01 = codes "A new PUBLISH has RETAIN 0 where Retain Available is 0."
sentence_of F02 = codes "No filter has a wildcard where the server takes none."
sentence_of F03 = codes "No SUBSCRIBE has a Subscription Identifier where the server takes none."
sentence_of F04 = codes "No SUBSCRIBE has a shared filter where the server takes none."
sentence_of F05 = codes "A Will QoS above the announced Maximum QoS is refused."
sentence_of F06 = codes "A Will with Will Retain 1 is refused where Retain Available is 0."
sentence_of V03 = codes "A shared filter has a name without wildcards, and a filter after it."
sentence_of V04 = codes "No Local is 0 for a shared filter."
sentence_of V06 = codes "A Reason Code is one that this end may send."
sentence_of C24 = codes "A CONNECT is answered by a CONNACK, if the connection stays open."
sentence_of D01 = codes "After a Malformed Packet the server closes the connection."
sentence_of D02 = codes "After a second CONNECT the server closes the connection."
sentence_of D03 = codes "After a Protocol Error the server closes the connection."
sentence_of D05 = codes "After more QoS 2 PUBLISHes than its Receive Maximum the server closes."
sentence_of A01 = codes "A client that uses an Authentication Method sends only AUTH and DISCONNECT before a CONNACK was received."
sentence_of A02 = codes "Without an Authentication Method in CONNECT there is no enhanced authentication."
sentence_of A03 = codes "AUTH and an accepting CONNACK have the Authentication Method of the CONNECT."
sentence_of K01 = codes "A client isn't silent for longer than the Keep Alive."
sentence_of K02 = codes "A server closes the connection of a client that is silent."

-- ---- where MQTT 5.0 has each statement: its citation for each end

-- the same citation for a client and for a server
abbrev pub for_both : List ℕ → Role → List ℕ
for_both text role = text

-- one for a client, another for a server
abbrev pub for_each : List ℕ → List ℕ → Role → List ℕ
for_each client server Client = client
for_each client server Server = server

-- one for a client: the statement binds no server
abbrev pub for_client : List ℕ → Role → List ℕ
for_client text Client = text
for_client text Server = []

-- one for a server: the statement binds no client
abbrev pub for_server : List ℕ → Role → List ℕ
for_server text Client = []
for_server text Server = text

-- the numbers of the conformance statements that a statement rests on, separated by commas, or a section
unfoldable pub citation_of : Rule → Role → List ℕ
citation_of W01 = for_both (codes "MQTT-2.1.3-1")
citation_of W02 = for_both (codes "sec-2.1.2")
citation_of W03 = for_both (codes "MQTT-1.5.5-1")
citation_of W04 = for_both (codes "MQTT-1.5.4-1")
citation_of W05 = for_both (codes "MQTT-1.5.4-2")
citation_of W06 = for_both (codes "sec-2.1.4")
citation_of W07 = for_both (codes "MQTT-3.3.1-4")
citation_of W08 = for_both (codes "MQTT-3.3.1-2")
citation_of W09 = for_both (codes "sec-2.2.1")
citation_of W10 = for_both (codes "sec-2.2.2.2")
citation_of W11 = for_both (codes "sec-2.2.2.2")
citation_of W12 = for_both (codes "sec-2.2.2.2")
citation_of W13 = for_both (codes "sec-2.4")
citation_of W14 = for_both (codes "sec-3.3.2")
citation_of W15 = for_both (codes "sec-4.7")
citation_of W16 = for_both (codes "MQTT-3.8.3-2,MQTT-3.10.3-2")
citation_of W17 = for_both (codes "sec-3.8.3")
citation_of W18 = for_both (codes "sec-3.1.2")
citation_of W19 = for_both (codes "sec-3.1.2")
citation_of W20 = for_both (codes "MQTT-3.2.2-1")
citation_of W21 = for_both (codes "sec-3.3.2")
citation_of C01 = for_both (codes "sec-2.1.2")
citation_of C02 = for_client (codes "MQTT-3.1.0-1")
citation_of C03 = for_client (codes "sec-3.1")
citation_of C04 = for_server (codes "sec-3.2")
citation_of C05 = for_server (codes "MQTT-3.2.0-1")
citation_of C06 = for_server (codes "MQTT-3.2.0-2")
citation_of C07 = for_server (codes "MQTT-3.2.2-2")
citation_of C08 = for_server (codes "MQTT-3.2.2-3")
citation_of C09 = for_server (codes "MQTT-3.2.2-6")
citation_of C10 = for_server (codes "MQTT-3.2.2-16")
citation_of C11 = for_both (codes "MQTT-3.14.4-1")
citation_of C12 = for_server (codes "MQTT-3.2.2-7")
citation_of C13 = for_client (codes "MQTT-3.2.2-4")
citation_of C14 = for_each (codes "MQTT-3.2.2-15") (codes "MQTT-3.1.2-24")
citation_of C15 = for_each (codes "MQTT-3.2.2-17") (codes "MQTT-3.1.2-26")
citation_of C16 = for_both (codes "sec-3.3.2")
citation_of C17 = for_client (codes "MQTT-3.2.2-11")
citation_of C18 = for_client (codes "MQTT-3.3.4-6")
citation_of C19 = for_server (codes "MQTT-3.14.2-2")
citation_of C20 = for_client (codes "sec-3.14.2")
citation_of C21 = for_server (codes "MQTT-3.1.2-29")
citation_of C22 = for_server (codes "MQTT-3.1.2-28")
citation_of C23 = for_each (codes "MQTT-3.14.4-2") (codes "MQTT-3.14.4-2,MQTT-3.2.2-7")
citation_of S01 = for_each (codes "MQTT-2.2.1-3") (codes "MQTT-2.2.1-4")
citation_of S02 = for_both (codes "MQTT-4.3.2-2,MQTT-4.3.3-2")
citation_of S03 = for_both (codes "MQTT-4.4.0-1")
citation_of S04 = for_both (codes "MQTT-4.3.3-6")
citation_of S05 = for_client (codes "MQTT-4.6.0-1")
citation_of S06 = for_both (codes "MQTT-4.4.0-1")
citation_of S07 = for_both (codes "MQTT-4.9.0-2")
citation_of E1A = for_both (codes "MQTT-2.2.1-5")
citation_of E1R = for_both (codes "MQTT-4.3.2-4")
citation_of E1O = for_client (codes "MQTT-4.6.0-2")
citation_of E2A = for_both (codes "MQTT-2.2.1-5")
citation_of E2R = for_both (codes "MQTT-4.3.3-8")
citation_of E2O = for_client (codes "MQTT-4.6.0-3")
citation_of E3A = for_both (codes "MQTT-2.2.1-5")
citation_of E3R = for_both (codes "MQTT-4.3.3-4")
citation_of E3O = for_client (codes "MQTT-4.6.0-4")
citation_of E4A = for_both (codes "MQTT-2.2.1-5")
citation_of E4R = for_both (codes "MQTT-4.3.3-11")
citation_of E5A = for_server (codes "MQTT-2.2.1-6")
citation_of E5R = for_server (codes "MQTT-3.8.4-1")
citation_of E6A = for_server (codes "MQTT-2.2.1-6")
citation_of E6R = for_server (codes "MQTT-3.10.4-4")
citation_of E7R = for_server (codes "MQTT-3.12.4-1")
citation_of L1 = for_both (codes "sec-4.3.3")
citation_of L2 = for_both (codes "MQTT-4.3.3-10")
citation_of L3 = for_both (codes "sec-4.3.3")
citation_of B01 = for_server (codes "MQTT-3.3.2-3")
citation_of B02 = for_server (codes "MQTT-3.8.4-8")
citation_of B03 = for_server (codes "MQTT-3.8.4-6")
citation_of B04 = for_server (codes "sec-3.11.3")
citation_of B05 = for_server (codes "sec-3.9.3")
citation_of B06 = for_server (codes "MQTT-3.10.4-1")
citation_of B07 = for_server (codes "sec-3.11.3")
citation_of B08 = for_server (codes "MQTT-3.3.2-3")
citation_of B09 = for_server (codes "MQTT-3.8.4-8,MQTT-4.8.2-3")
citation_of P01 = for_server (codes "sec-3.3.4")
citation_of P02 = for_server (codes "MQTT-3.3.4-3")
citation_of R01 = for_server (codes "MQTT-3.3.1-11,MQTT-3.3.1-12")
citation_of R02 = for_server (codes "sec-4.8.2")
citation_of F01 = for_client (codes "MQTT-3.2.2-14")
citation_of F02 = for_client (codes "sec-3.2.2.3.11")
citation_of F03 = for_client (codes "sec-3.2.2.3.12")
citation_of F04 = for_client (codes "sec-3.2.2.3.13")
citation_of F05 = for_server (codes "MQTT-3.2.2-12")
citation_of F06 = for_server (codes "MQTT-3.2.2-13")
citation_of V03 = for_client (codes "MQTT-4.8.2-1,MQTT-4.8.2-2")
citation_of V04 = for_client (codes "MQTT-3.8.3-4")
citation_of V06 = for_each (codes "sec-3.14.2.1,sec-3.4.2.1") (codes "sec-3.14.2.1")
citation_of C24 = for_server (codes "MQTT-3.1.4-5")
citation_of D01 = for_server (codes "MQTT-4.13.1-1")
citation_of D02 = for_server (codes "MQTT-3.1.0-2")
citation_of D03 = for_server (codes "MQTT-4.13.1-1")
citation_of D05 = for_server (codes "sec-3.3.4")
citation_of A01 = for_client (codes "MQTT-3.1.2-30")
citation_of A02 = for_each (codes "MQTT-4.12.0-7") (codes "MQTT-4.12.0-6")
citation_of A03 = for_each (codes "MQTT-4.12.0-5,MQTT-4.12.1-1") (codes "MQTT-4.12.0-5")
citation_of K01 = for_client (codes "MQTT-3.1.2-20,MQTT-3.2.2-21")
citation_of K02 = for_server (codes "MQTT-3.1.2-22,MQTT-3.2.2-22")

-- ---- the statement that a code names

-- the line of the table whose code is the text, in capital or small letters
unfoldable pub coded_line : List ℕ → Option StatementLine
coded_line text = find (λ line. str_eq_ignore_ascii_case line.code text) lines

-- the statement that a code names, in capitals or not
unfoldable pub coded_rule : List ℕ → Option Rule
coded_rule text = option_map (λ line. line.rule) (coded_line text)

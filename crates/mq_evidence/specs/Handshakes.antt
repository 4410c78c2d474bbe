-- What is kept of how a connection began and ended, for the statements on its past; and the words of Evidence over the event's note and what came on the connection before it.
use Rattle.std.specs.Prelude.{ℕ, ◌≡◌, Bool, List, Option, Some, None, is_some, unwrap_or, option_map}
use Rattle.std.specs.Option.{option_and_then}
use Rattle.mq_packet.specs.declared.packet.PacketType.TheVariants as types
use Rattle.mq_rules.specs.declared.role.Role.{Role}
use Rattle.mq_rules.specs.declared.role.Role.TheVariants.{Client, Server}
use Rattle.mq_rules.specs.declared.note.Note.{Note}
use Rattle.mq_rules.specs.Words.{only}
use Rattle.mq_rules.specs.Notes.{sends_type, sent_packet, sent_publish, sent_disconnect, qos_number}
use Rattle.mq_rules.specs.Moments.{Moment, position, note}
use Rattle.mq_rules.specs.Connections.{first_connect, first_connack}
use Rattle.mq_rules.specs.Pasts.{is_sent_disconnect, is_sent_refusal, is_last_sent, used_alias}
use Rattle.mq_rules.specs.declared.evidence.Evidence.{Evidence}
use Rattle.mq_rules.specs.declared.evidence.Numbers.TheVariants.{Two}
use Rattle.mq_evidence.specs.declared.handshake.FirstSent.{FirstSent}
use Rattle.mq_evidence.specs.declared.handshake.Greetings.{Greetings}
use Rattle.mq_evidence.specs.declared.handshake.Handshake.{Handshake}
use Rattle.mq_evidence.specs.Evidence.{it_with, one_of, two_of, earliest, is_connect, is_connack}
use Rattle.mq_evidence.specs.Stretches.{Stretches}

-- ---- words

-- the first event of which the note passes the test
abbrev pub first_on : (Note → Bool) → List Moment → Option Moment
first_on test ms = earliest (λ m. test (note m)) ms

-- that in which the peer announced what it takes: the server in its CONNACK, the client in its CONNECT
abbrev pub peer_on : Role → List Moment → Option Moment
peer_on Client ms = earliest (is_connack Client) ms
peer_on Server ms = earliest (is_connect Server) ms

-- the peer's Maximum Packet Size, Topic Alias Maximum and Receive Maximum, if it announced them
abbrev pub announced_size : Role → List Moment → Option ℕ
announced_size Client ms = option_and_then (λ a. a.maximum_packet_size) (first_connack Client ms)
announced_size Server ms = option_and_then (λ c. c.maximum_packet_size) (first_connect Server ms)

abbrev pub announced_alias : Role → List Moment → Option ℕ
announced_alias Client ms = option_and_then (λ a. a.topic_alias_maximum) (first_connack Client ms)
announced_alias Server ms = option_and_then (λ c. c.topic_alias_maximum) (first_connect Server ms)

abbrev pub announced_receive : Role → List Moment → Option ℕ
announced_receive Client ms = option_and_then (λ a. a.receive_maximum) (first_connack Client ms)
announced_receive Server ms = option_and_then (λ c. c.receive_maximum) (first_connect Server ms)

-- ---- the evidence, by the event's note and what came on its connection before it

-- C14
abbrev pub size_evidence : Role → Note → List Moment → Evidence
size_evidence role n ms = it_with (peer_on role ms) (two_of (option_map (λ p. p.size) (sent_packet n)) (announced_size role ms))

-- C15
abbrev pub alias_evidence : Role → Note → List Moment → Evidence
alias_evidence role n ms = it_with (only (is_some (announced_alias role ms)) (peer_on role ms))
    (two_of (option_and_then (λ p. p.topic_alias) (sent_publish n)) (Some (unwrap_or (announced_alias role ms) 0)))

-- C16
abbrev pub used_evidence : Note → Evidence
used_evidence n = it_with None (one_of (used_alias n))

-- C17
abbrev pub qos_evidence : Role → Note → List Moment → Evidence
qos_evidence role n ms = it_with (earliest (is_connack role) ms)
    (two_of (option_map (λ p. qos_number p.qos) (sent_publish n)) (Some (unwrap_or (option_and_then (λ a. a.maximum_qos) (first_connack role ms)) 2)))

-- C20
abbrev pub expiry_evidence : Role → Note → List Moment → Evidence
expiry_evidence role n ms = it_with (earliest (is_connect role) ms) (one_of (option_and_then (λ d. d.session_expiry) (sent_disconnect n)))

-- S07, where so many PUBLISHes are in flight with this one
abbrev pub quota_evidence : Role → ℕ → List Moment → Evidence
quota_evidence role in_flight ms = it_with (only (is_some (announced_receive role ms)) (peer_on role ms)) (Two in_flight (unwrap_or (announced_receive role ms) 65535))

-- ---- what is kept

-- The moments of a connection lead to what is kept of what was sent on it, and of how it began.
pub record IsFirstSent (f : FirstSent) (role : Role) (ms : List Moment) : Type 0 where
  pub connect_is : f.connect ≡ option_map position (first_on (sends_type types.Connect) ms)
  pub connack_is : f.connack ≡ option_map position (first_on (sends_type types.Connack) ms)
  pub disconnect_is : f.disconnect ≡ option_map position (first_on is_sent_disconnect ms)
  pub refusal_is : f.refusal ≡ option_map position (first_on is_sent_refusal ms)
  pub last_is : f.last ≡ option_map position (first_on (is_last_sent role) ms)

pub record IsGreetings (g : Greetings) (role : Role) (ms : List Moment) : Type 0 where
  pub connect_at : g.connect_at ≡ option_map position (earliest (is_connect role) ms)
  pub connect_is : g.connect ≡ first_connect role ms
  pub connack_at : g.connack_at ≡ option_map position (earliest (is_connack role) ms)
  pub connack_is : g.connack ≡ first_connack role ms

-- These stretches lead to what is kept, where the tested end has this role.
pub record IsHandshake (h : Handshake) (role : Role) (s : Stretches) : Type 0 where
  pub same_role : h.role ≡ role
  pub sent_is : IsFirstSent h.sent role s.connection
  pub greetings_are : IsGreetings h.greetings role s.connection

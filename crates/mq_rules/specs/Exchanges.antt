-- Exchanges: what is received is a cause, and what is sent for it an answer (E1 to E7). Each statement says when it is put to the test (`applies`), and when it
-- is false (`breaks`), at a moment k whose connection is accepted and has the fate f.
use Rattle.std.specs.Prelude.{ℕ, ◌==◌, nat_lt, Bool, ◌&&◌, not, Option, is_some}
use Rattle.mq_rules.specs.declared.role.Role.{Role}
use Rattle.mq_rules.specs.declared.fate.Fate.{Fate}
use Rattle.mq_rules.specs.declared.note.Note.{Note}
use Rattle.mq_rules.specs.Words.{is_some_and, is_id}
use Rattle.mq_rules.specs.Notes.{received_once_acknowledged, received_exactly_once, sent_as, received_as, puback_in, pubrec_in, accepting_pubrec_in, pubrel_in, pubcomp_in, subscribe_in, suback_in, unsubscribe_in, unsuback_in, is_sent_pingresp, is_received_pingreq}
use Rattle.mq_rules.specs.Moments.{Moment, note, is_same, is_after, some, since, is_unended, earliest_since, count}
use Rattle.mq_rules.specs.Connections.{number, connection, is_binding}
use Rattle.mq_rules.specs.Identifiers.{session_before}

-- An exchange: under which identifier an event is a cause, and under which it is an answer.
pub record Exchange : Type 0 where
  pub cause : Note → Option ℕ
  pub answer : Note → Option ℕ

-- ---- the exchanges (MQTT 5.0, sections 4.3, 3.8.4 and 3.10.4)

-- a PUBLISH of QoS 1 and its PUBACK
abbrev pub publish_puback : Exchange
publish_puback = record { cause = received_once_acknowledged; answer = sent_as puback_in }

-- a PUBLISH of QoS 2 and its PUBREC
abbrev pub publish_pubrec : Exchange
publish_pubrec = record { cause = received_exactly_once; answer = sent_as pubrec_in }

-- a PUBREC below 0x80 and its PUBREL
abbrev pub pubrec_pubrel : Exchange
pubrec_pubrel = record { cause = received_as accepting_pubrec_in; answer = sent_as pubrel_in }

-- a PUBREL and its PUBCOMP
abbrev pub pubrel_pubcomp : Exchange
pubrel_pubcomp = record { cause = received_as pubrel_in; answer = sent_as pubcomp_in }

-- a SUBSCRIBE and its SUBACK
abbrev pub subscribe_suback : Exchange
subscribe_suback = record { cause = received_as subscribe_in; answer = sent_as suback_in }

-- an UNSUBSCRIBE and its UNSUBACK
abbrev pub unsubscribe_unsuback : Exchange
unsubscribe_unsuback = record { cause = received_as unsubscribe_in; answer = sent_as unsuback_in }

-- ---- the statements on an exchange

-- the moment is a cause under the identifier; an answer under it
abbrev pub causes : Exchange → ℕ → Moment → Bool
causes x i m = is_id i (x.cause (note m))

abbrev pub answers : Exchange → ℕ → Moment → Bool
answers x i m = is_id i (x.answer (note m))

-- A: whenever there is an answer, its session has an earlier cause under its identifier that is unanswered on the answer's connection.
unfoldable pub applies_A : Exchange → Moment → Bool
applies_A x k = is_some (x.answer (note k))

unfoldable pub breaks_A : Exchange → Role → Fate → Moment → Bool
breaks_A x role f k = is_some_and (λ i. not (since (causes x i) (λ j. answers x i j && (number j == number k)) (session_before role f k))) (x.answer (note k))

-- The first unanswered cause under the identifier at k: the earliest one before k on its connection without an answer between.
abbrev pub first_unanswered : Exchange → ℕ → Moment → Option Moment
first_unanswered x i k = earliest_since (causes x i) (answers x i) (connection k.past)

-- at k, j is a cause under another identifier than this one, before k on its connection without an answer between
abbrev pub is_other_unanswered : Exchange → ℕ → Moment → Moment → Bool
is_other_unanswered x i k j = is_some_and (λ other. not (other == i) && is_unended j (answers x other) (connection k.past)) (x.cause (note j))

-- O: whenever there is an answer to an unanswered cause, while another identifier has one too, none of those comes before the first one under its own.
unfoldable pub applies_O : Exchange → Moment → Bool
applies_O x k = is_some_and (λ i. is_some (first_unanswered x i k) && some (is_other_unanswered x i k) (connection k.past)) (x.answer (note k))

unfoldable pub breaks_O : Exchange → Moment → Bool
breaks_O x k = is_some_and (λ i. is_some_and (λ first. some (λ j. is_other_unanswered x i k j && is_after first j) (connection k.past)) (first_unanswered x i k)) (x.answer (note k))

-- R, at a cause k before which no cause under its identifier is unanswered, as a binding REST t shows: whenever k is before t on its connection, an answer is between.
unfoldable pub applies_R : Exchange → Moment → Moment → Bool
applies_R x t k = is_some_and (λ i. not (is_some (first_unanswered x i k))) (x.cause (note k)) && some (is_same k) (connection t.past)

unfoldable pub shows_R : Exchange → Moment → Moment → Bool
shows_R x t k = is_some_and (λ i. not (is_some (first_unanswered x i k)) && is_unended k (answers x i) (connection t.past)) (x.cause (note k))

-- E7R: whenever PINGREQs were received before a binding REST on its connection, as many PINGRESPs were sent there (MQTT 5.0, section 3.12.4).
unfoldable pub applies_E7R : Role → Moment → Bool
applies_E7R role k = is_binding role k && some (λ m. is_received_pingreq (note m)) (connection k.past)

unfoldable pub breaks_E7R : Role → Moment → Bool
breaks_E7R role k = is_binding role k && nat_lt (count (λ m. is_sent_pingresp (note m)) (connection k.past)) (count (λ m. is_received_pingreq (note m)) (connection k.past))

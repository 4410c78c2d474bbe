-- Releases of QoS 2 messages for onward delivery (L1 to L3; MQTT 5.0, section 4.3.3), if the log records them. Each statement says when it is put to the test
-- (`applies`), and when it is false (`breaks`), at a moment k whose connection has the fate f.
use Rattle.std.specs.Prelude.{ℕ, Bool, ◌&&◌, ◌||◌, not, Option, is_some}
use Rattle.mq_rules.specs.declared.role.Role.{Role}
use Rattle.mq_rules.specs.declared.fate.Fate.{Fate}
use Rattle.mq_rules.specs.Words.{is_some_and, is_id}
use Rattle.mq_rules.specs.Notes.{released_id, received_exactly_once, received_publish, sent_as, ended_in, unmatched_pubrec_in, success_pubcomp_in}
use Rattle.mq_rules.specs.Moments.{Moment, note, since, is_unended, earliest_since}
use Rattle.mq_rules.specs.Identifiers.{session_before}

-- the moment receives a QoS 2 PUBLISH under the identifier; releases it; ends its exchange, by a PUBCOMP or by a PUBREC of 0x80 or more
abbrev pub brings : ℕ → Moment → Bool
brings i m = is_id i (received_exactly_once (note m))

abbrev pub releases_message : ℕ → Moment → Bool
releases_message i m = is_id i (released_id (note m))

abbrev pub ends : ℕ → Moment → Bool
ends i m = is_id i (sent_as ended_in (note m))

-- L1: whenever there is a RELEASE, a QoS 2 PUBLISH under its identifier was received in the session whose exchange hasn't ended since.
unfoldable pub applies_L1 : Moment → Bool
applies_L1 k = is_some (released_id (note k))

unfoldable pub breaks_L1 : Role → Fate → Moment → Bool
breaks_L1 role f k = is_some_and (λ i. not (since (brings i) (ends i) (session_before role f k))) (released_id (note k))

-- L2: whenever there is a RELEASE, no other one under its identifier came before in the session with the exchange not ended between.
unfoldable pub applies_L2 : Moment → Bool
applies_L2 k = is_some (released_id (note k))

unfoldable pub breaks_L2 : Role → Fate → Moment → Bool
breaks_L2 role f k = is_some_and (λ i. since (releases_message i) (ends i) (session_before role f k)) (released_id (note k))

-- the first QoS 2 PUBLISH under the identifier in the session whose exchange hasn't ended since
abbrev pub first_brought : Role → Fate → ℕ → Moment → Option Moment
first_brought role f i k = earliest_since (brings i) (ends i) (session_before role f k)

-- It needs no RELEASE: it may expire, or a PUBREC of 0x10 (No matching subscribers) was sent since.
abbrev pub may_lapse : Role → Fate → ℕ → Moment → Moment → Bool
may_lapse role f i k first = is_some_and (λ p. p.has_message_expiry) (received_publish (note first))
    || not (is_unended first (λ m. is_id i (sent_as unmatched_pubrec_in (note m))) (session_before role f k))

-- L3: whenever a PUBCOMP of code 0x00 is sent for such a PUBLISH, which needs a RELEASE, it had one.
unfoldable pub applies_L3 : Role → Fate → Moment → Bool
applies_L3 role f k = is_some_and (λ i. is_some_and (λ first. not (may_lapse role f i k first)) (first_brought role f i k)) (sent_as success_pubcomp_in (note k))

unfoldable pub breaks_L3 : Role → Fate → Moment → Bool
breaks_L3 role f k = is_some_and (λ i. is_some_and (λ first. not (since (releases_message i) (ends i) (session_before role f k)) && not (may_lapse role f i k first))
    (first_brought role f i k)) (sent_as success_pubcomp_in (note k))

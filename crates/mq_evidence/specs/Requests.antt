-- What is kept of the requests that wait for their answers, for B03 to B07.
use Rattle.std.specs.Prelude.{ℕ, ◌≡◌, Bool, cond, List, length, Option, Some, None, option_map, unwrap_or}
use Rattle.std.specs.Option.{option_and_then, option_or}
use Rattle.mq_rules.specs.ByIdentifier.{kept}
use Rattle.mq_rules.specs.declared.note.Note.{Note}
use Rattle.mq_rules.specs.Notes.{sent_grant, sent_deletion, received_subscription, received_unsubscription, sent_as, received_as, subscribe_in, suback_in, unsubscribe_in, unsuback_in}
use Rattle.mq_rules.specs.Moments.{Moment, position, note, earliest_since}
use Rattle.mq_rules.specs.declared.evidence.Evidence.{Evidence}
use Rattle.mq_rules.specs.Evidence.{nothing}
use Rattle.mq_evidence.specs.declared.requests.Request.{Request}
use Rattle.mq_evidence.specs.declared.requests.Requests.{Requests}
use Rattle.mq_evidence.specs.Evidence.{it, it_with, two_of}
use Rattle.mq_evidence.specs.Stretches.{Stretches, has_id}

-- how many Topic Filters a SUBSCRIBE, or an UNSUBSCRIBE, has that was received; 0 if there is none
abbrev pub filters_of : Note → ℕ
filters_of n = unwrap_or (option_map (λ s. length s.filters) (received_subscription n)) 0

abbrev pub count_of : Note → ℕ
count_of n = unwrap_or (option_map (λ u. length u.filters) (received_unsubscription n)) 0

-- the first SUBSCRIBE, or UNSUBSCRIBE, under an identifier that waits for its answer
abbrev pub first_subscribe : ℕ → List Moment → Option Moment
first_subscribe i ms = earliest_since (has_id (received_as subscribe_in) i) (has_id (sent_as suback_in) i) ms

abbrev pub first_unsubscribe : ℕ → List Moment → Option Moment
first_unsubscribe i ms = earliest_since (has_id (received_as unsubscribe_in) i) (has_id (sent_as unsuback_in) i) ms

-- what a SUBACK, or an UNSUBACK, conflicts with that is sent with another number of Reason Codes
abbrev pub of_grant : List Moment → Note → Evidence
of_grant ms n = unwrap_or (option_map (λ a. it_with (first_subscribe a.identifier ms)
    (two_of (option_map (λ s. length s.filters) (option_and_then (λ j. received_subscription (note j)) (first_subscribe a.identifier ms))) (Some (length a.codes))))
    (sent_grant n)) nothing

abbrev pub of_unsuback : List Moment → Note → Evidence
of_unsuback ms n = unwrap_or (option_map (λ a. it_with (first_unsubscribe a.identifier ms)
    (two_of (option_map (λ u. length u.filters) (option_and_then (λ j. received_unsubscription (note j)) (first_unsubscribe a.identifier ms))) (Some (length a.codes))))
    (sent_deletion n)) nothing

-- what a SUBACK conflicts with that grants more than was asked for
abbrev pub of_too_much : List Moment → Note → Evidence
of_too_much ms n = unwrap_or (option_map (λ i. it (first_subscribe i ms)) (sent_as suback_in n)) nothing

-- what an UNSUBACK conflicts with that says of a filter what isn't so
abbrev pub of_untruth : List Moment → Note → Evidence
of_untruth ms n = unwrap_or (option_map (λ i. it (first_unsubscribe i ms)) (sent_as unsuback_in n)) nothing

-- ---- what is kept

-- the request of a moment
abbrev pub request_of : (Note → ℕ) → Moment → Request
request_of count m = record { position = position m; filters = count (note m) }

-- what is kept under an identifier with one event more, which may begin the connection, and be a request or an answer under it
abbrev pub request_next : Bool → Bool → Bool → Request → Option Request → Option Request
request_next over gains loses request old = option_or (cond loses None (cond over None old)) (cond gains (Some request) None)

-- the request, with its number and that of an answer
abbrev pub compared : Option Request → ℕ → Evidence
compared r codes = record { because = option_map (λ q. q.position) r; numbers = two_of (option_map (λ q. q.filters) r) (Some codes) }

-- Under each identifier this is the first request that waits for its answer.
pub record IsRequests (r : Requests) (seen : Stretches) : Type 0 where
  pub subscribes_are : (i : ℕ) → kept r.subscribes i ≡ option_map (request_of filters_of) (first_subscribe i seen.connection)
  pub unsubscribes_are : (i : ℕ) → kept r.unsubscribes i ≡ option_map (request_of count_of) (first_unsubscribe i seen.connection)

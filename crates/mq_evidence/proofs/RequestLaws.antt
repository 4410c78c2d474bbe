-- The first request that waits for its answer, with one moment more, and what it is compared with.
use Rattle.std.proofs.Common.{◌≡◌, ℕ, Bool, true, false, cond, List, [], ◌∷◌, length, Option, Some, None, refl, ap, sym, ◌∙◌}
use Rattle.std.specs.Prelude.{option_map, unwrap_or}
use Rattle.std.specs.Option.{option_and_then, option_or}
use Rattle.mq_rules.specs.declared.note.Note.{Note}
use Rattle.mq_rules.specs.declared.packet_note.PacketFields.{PacketFields}
use Rattle.mq_rules.specs.declared.packet_note.PacketFields.TheVariants.{Subscribe, Unsubscribe}
use Rattle.mq_rules.specs.Words.{is_id}
use Rattle.mq_rules.specs.Notes.{Grant, received_fields, received_subscription, received_unsubscription, subscription_in, unsubscription_in, received_as, sent_as, subscribe_in, unsubscribe_in, suback_in, unsuback_in, sent_grant, sent_deletion}
use Rattle.mq_rules.specs.Moments.{Moment, position, note, earliest_since}
use Rattle.mq_rules.specs.declared.evidence.Evidence.{Evidence}
use Rattle.mq_rules.specs.declared.evidence.Numbers.TheVariants.{Nothing}
use Rattle.mq_rules.specs.Evidence.{nothing}
use Rattle.mq_evidence.specs.declared.requests.Request.{Request}
use Rattle.mq_evidence.specs.Evidence.{it, it_with, two_of}
use Rattle.mq_evidence.specs.Stretches.{longer, has_id}
use Rattle.mq_evidence.specs.Requests.{filters_of, count_of, first_subscribe, first_unsubscribe, request_of, request_next, compared, of_grant, of_unsuback}

abbrev request_by : ℕ → ℕ → Request
request_by filters p = record { position = p; filters = filters }

request-longer : (count : Note → ℕ) (starts ends : Moment → Bool) (over : Bool) (m : Moment) (ms : List Moment)
    → option_map (request_of count) (earliest_since starts ends (longer over true m ms))
    ≡ request_next over (starts m) (ends m) (request_of count m) (option_map (request_of count) (earliest_since starts ends ms))
request-longer count starts ends true m ms = go (starts m) (ends m)
  where
    go : (a b : Bool) → option_map (request_of count) (option_or (cond b None None) (cond a (Some m) None)) ≡ option_or (cond b None None) (cond a (Some (request_of count m)) None)
    go true true = refl
    go true false = refl
    go false true = refl
    go false false = refl
request-longer count starts ends false m ms = go (starts m) (ends m) (earliest_since starts ends ms)
  where
    go : (a b : Bool) (o : Option Moment) → option_map (request_of count) (option_or (cond b None o) (cond a (Some m) None))
        ≡ option_or (cond b None (option_map (request_of count) o)) (cond a (Some (request_of count m)) None)
    go true true o = refl
    go false true o = refl
    go true false None = refl
    go true false (Some x) = refl
    go false false None = refl
    go false false (Some x) = refl

pub request-kept : (count : Note → ℕ) (found ends : Note → Option ℕ) (over : Bool) (n : Note) (r : Request) (gained lost : Option ℕ) (m : Moment) (ms : List Moment) (old new : ℕ → Option Request)
    → note m ≡ n → request_of count m ≡ r → gained ≡ found n → lost ≡ ends n
    → ((i : ℕ) → old i ≡ option_map (request_of count) (earliest_since (has_id found i) (has_id ends i) ms))
    → ((i : ℕ) → new i ≡ request_next over (is_id i gained) (is_id i lost) r (old i))
    → (i : ℕ) → new i ≡ option_map (request_of count) (earliest_since (has_id found i) (has_id ends i) (longer over true m ms))
request-kept count found ends over n r gained lost m ms old new same is gained_is lost_is before grown i =
    grown i
    ∙ ap (request_next over (is_id i gained) (is_id i lost) r) (before i)
    ∙ ap (λ o. request_next over (is_id i o) (is_id i lost) r (option_map (request_of count) (earliest_since (has_id found i) (has_id ends i) ms))) (gained_is ∙ ap found (sym same))
    ∙ ap (λ o. request_next over (has_id found i m) (is_id i o) r (option_map (request_of count) (earliest_since (has_id found i) (has_id ends i) ms))) (lost_is ∙ ap ends (sym same))
    ∙ ap (λ q. request_next over (has_id found i m) (has_id ends i m) q (option_map (request_of count) (earliest_since (has_id found i) (has_id ends i) ms))) (sym is)
    ∙ sym (request-longer count (has_id found i) (has_id ends i) over m ms)

-- ---- the request that is found is one, and has its number

earliest_since-passes : (starts ends : Moment → Bool) (ms : List Moment) (at : Moment) → earliest_since starts ends ms ≡ Some at → starts at ≡ true
earliest_since-passes starts ends [] at h = absurd (cc)
earliest_since-passes starts ends (m ∷ ms) at h = go (starts m) refl (ends m) (earliest_since starts ends ms) (earliest_since-passes starts ends ms at) h
  where
    go : (a : Bool) → starts m ≡ a → (b : Bool) (o : Option Moment) → (o ≡ Some at → starts at ≡ true) → option_or (cond b None o) (cond a (Some m) None) ≡ Some at → starts at ≡ true
    go a passes false (Some n) rest h = rest h
    go true passes false None rest h = let same : m ≡ at = cc in ap starts (sym same) ∙ passes
    go false passes false None rest h = absurd (cc)
    go true passes true o rest h = let same : m ≡ at = cc in ap starts (sym same) ∙ passes
    go false passes true o rest h = absurd (cc)

subscribed : (i : ℕ) (o : Option PacketFields) → is_id i (option_and_then subscribe_in o) ≡ true
    → option_map (λ s. length s.filters) (option_and_then subscription_in o) ≡ Some (unwrap_or (option_map (λ s. length s.filters) (option_and_then subscription_in o)) 0)
subscribed i None h = absurd (cc)
subscribed i (Some (Subscribe identifier filters wishes)) h = refl
subscribed i (Some _) h = absurd (cc)

unsubscribed : (i : ℕ) (o : Option PacketFields) → is_id i (option_and_then unsubscribe_in o) ≡ true
    → option_map (λ u. length u.filters) (option_and_then unsubscription_in o) ≡ Some (unwrap_or (option_map (λ u. length u.filters) (option_and_then unsubscription_in o)) 0)
unsubscribed i None h = absurd (cc)
unsubscribed i (Some (Unsubscribe identifier filters)) h = refl
unsubscribed i (Some _) h = absurd (cc)

-- what is compared is what the definition says
pub compared-grant : (i codes : ℕ) (ms : List Moment) → compared (option_map (request_of filters_of) (first_subscribe i ms)) codes
    ≡ it_with (first_subscribe i ms) (two_of (option_map (λ s. length s.filters) (option_and_then (λ j. received_subscription (note j)) (first_subscribe i ms))) (Some codes))
compared-grant i codes ms = go (first_subscribe i ms) refl
  where
    go : (o : Option Moment) → first_subscribe i ms ≡ o → compared (option_map (request_of filters_of) o) codes
        ≡ it_with o (two_of (option_map (λ s. length s.filters) (option_and_then (λ j. received_subscription (note j)) o)) (Some codes))
    go None is = refl
    go (Some m) is = ap (λ n. it_with (Some m) (two_of n (Some codes)))
        (sym (subscribed i (received_fields (note m)) (earliest_since-passes (has_id (received_as subscribe_in) i) (has_id (sent_as suback_in) i) ms m is)))

pub compared-count : (i codes : ℕ) (ms : List Moment) → compared (option_map (request_of count_of) (first_unsubscribe i ms)) codes
    ≡ it_with (first_unsubscribe i ms) (two_of (option_map (λ u. length u.filters) (option_and_then (λ j. received_unsubscription (note j)) (first_unsubscribe i ms))) (Some codes))
compared-count i codes ms = go (first_unsubscribe i ms) refl
  where
    go : (o : Option Moment) → first_unsubscribe i ms ≡ o → compared (option_map (request_of count_of) o) codes
        ≡ it_with o (two_of (option_map (λ u. length u.filters) (option_and_then (λ j. received_unsubscription (note j)) o)) (Some codes))
    go None is = refl
    go (Some m) is = ap (λ n. it_with (Some m) (two_of n (Some codes)))
        (sym (unsubscribed i (received_fields (note m)) (earliest_since-passes (has_id (received_as unsubscribe_in) i) (has_id (sent_as unsuback_in) i) ms m is)))

-- the request of a moment, by its numbers
pub request-is : (count : Note → ℕ) (m : Moment) (n : Note) (p filters : ℕ) → position m ≡ p → note m ≡ n → filters ≡ count n → request_of count m ≡ record { position = p; filters = filters }
request-is count m n p filters at same is = ap (request_by (count (note m))) at ∙ ap (λ k. request_by k p) (ap count same ∙ sym is)

-- ---- what is compared is what the definition says

abbrev told_of_grant : List Moment → ℕ × ℕ → Evidence
told_of_grant ms q = it_with (first_subscribe q.0 ms) (two_of (option_map (λ s. length s.filters) (option_and_then (λ j. received_subscription (note j)) (first_subscribe q.0 ms))) (Some q.1))

pub of_grant-is : (ms : List Moment) (n : Note) (i codes : ℕ) (e : Evidence) → option_map {U = ℕ × ℕ} (λ a. (a.identifier, length a.codes)) (sent_grant n) ≡ Some (i, codes)
    → e ≡ compared (option_map (request_of filters_of) (first_subscribe i ms)) codes → e ≡ of_grant ms n
of_grant-is ms n i codes e = go (sent_grant n)
  where
    go : (o : Option Grant) → option_map {U = ℕ × ℕ} (λ a. (a.identifier, length a.codes)) o ≡ Some (i, codes) → e ≡ compared (option_map (request_of filters_of) (first_subscribe i ms)) codes
        → e ≡ unwrap_or (option_map (λ a. told_of_grant ms (a.identifier, length a.codes)) o) nothing
    go None h is = absurd (cc)
    go (Some a) h is = let same : (a.identifier, length a.codes) ≡ (i, codes) = cc in is ∙ compared-grant i codes ms ∙ ap (told_of_grant ms) (sym same)

abbrev told_of_unsuback : List Moment → ℕ × ℕ → Evidence
told_of_unsuback ms q = it_with (first_unsubscribe q.0 ms) (two_of (option_map (λ u. length u.filters) (option_and_then (λ j. received_unsubscription (note j)) (first_unsubscribe q.0 ms))) (Some q.1))

pub of_unsuback-is : (ms : List Moment) (n : Note) (i codes : ℕ) (e : Evidence) → option_map {U = ℕ × ℕ} (λ a. (a.identifier, length a.codes)) (sent_deletion n) ≡ Some (i, codes)
    → e ≡ compared (option_map (request_of count_of) (first_unsubscribe i ms)) codes → e ≡ of_unsuback ms n
of_unsuback-is ms n i codes e = go (sent_deletion n)
  where
    go : (o : Option Grant) → option_map {U = ℕ × ℕ} (λ a. (a.identifier, length a.codes)) o ≡ Some (i, codes) → e ≡ compared (option_map (request_of count_of) (first_unsubscribe i ms)) codes
        → e ≡ unwrap_or (option_map (λ a. told_of_unsuback ms (a.identifier, length a.codes)) o) nothing
    go None h is = absurd (cc)
    go (Some a) h is = let same : (a.identifier, length a.codes) ≡ (i, codes) = cc in is ∙ compared-count i codes ms ∙ ap (told_of_unsuback ms) (sym same)

-- what is said of an event without numbers; where a request is
abbrev pub by_event : Option ℕ → Evidence
by_event because = record { because = because; numbers = Nothing }

abbrev pub place_in : Option Request → Option ℕ
place_in r = option_map (λ q. q.position) r

-- an answer conflicts with the request that it answers, the first under its identifier
pub of_answer-is : (count : Note → ℕ) (first : ℕ → Option Moment) (answered : Option ℕ) (i : ℕ) (e : Evidence) → answered ≡ Some i → e ≡ by_event (place_in (option_map (request_of count) (first i)))
    → e ≡ unwrap_or (option_map (λ i. it (first i)) answered) nothing
of_answer-is count first answered i e answers is = is ∙ go (first i) ∙ ap (λ o. unwrap_or (option_map (λ i. it (first i)) o) nothing) (sym answers)
  where
    go : (o : Option Moment) → by_event (place_in (option_map (request_of count) o)) ≡ it o
    go None = refl
    go (Some m) = refl

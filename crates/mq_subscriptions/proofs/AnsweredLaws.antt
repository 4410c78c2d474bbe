-- The Reason Codes of the SUBACK that answers a SUBSCRIBE, with one event more.
use Rattle.std.proofs.Common.{◌≡◌, ℕ, ◌+◌, ◌<◌, ◌≤◌, ◌==◌, arith, Bool, true, false, cond, List, [], ◌∷◌, length, Option, Some, None, refl, ap, sym, ◌∙◌, subst, inl, inr}
use Rattle.std.specs.Prelude.{option_map}
use Rattle.std.specs.Option.{option_or}
use Rattle.std.proofs.lemmas.Bool.{eqb-true}
use Rattle.std.proofs.lemmas.Bool.Decides.{nat_tests}
use Rattle.mq_rules.specs.declared.note.Seen.{Seen}
use Rattle.mq_rules.specs.Words.{is_some_and, is_id, only}
use Rattle.mq_rules.specs.Notes.{Grant, sent_grant}
use Rattle.mq_rules.specs.Moments.{Moment, newest, note, moments, moment, position, is_same, first_given, Among, IsEarliestSince}
use Rattle.mq_rules.specs.Connections.{begun, number, of_connection, connection}
use Rattle.mq_rules.specs.Exchanges.{causes, answers, first_unanswered, subscribe_suback}
use Rattle.mq_rules.specs.FurtherSubscriptions.{answers_subscribe}
use Rattle.mq_rules.proofs.Exports.{among-moment, among-within, earliest_since-is, moments-descend, not_true, option_or-none, those-among, those-descend}
use Rattle.mq_subscriptions.specs.Countings.{names, grant_count, subscribes_so}
use Rattle.mq_subscriptions.specs.Deletings.{codes_given}

-- what a SUBACK gives j
gives : Moment → Moment → Option (List ℕ)
gives j t = only (answers_subscribe j t) (option_map (λ a. a.codes) (sent_grant (note t)))

pub none-given : {A : Type 0} (found : Moment → Option A) (ms : List Moment) → ((m : Moment) → Among m ms → found m ≡ None) → first_given found ms ≡ None
none-given found [] h = refl
none-given found (m ∷ ms) h = ap (λ o. option_or o (found m)) (none-given found ms (λ n a. h n (inr a))) ∙ h m (inl refl)

-- the first unanswered SUBSCRIBE under i, on the connection up to there
pub first-stands : (i : ℕ) (t m : Moment) → first_unanswered subscribe_suback i t ≡ Some m → IsEarliestSince (causes subscribe_suback i) (answers subscribe_suback i) (connection t.past) m
first-stands i t m h = earliest_since-is (causes subscribe_suback i) (answers subscribe_suback i) (connection t.past) m (those-descend (λ m. number m == begun t.past) (moments t.past) (moments-descend t.past)) h

pub connection-inside : (past : List Seen) (m : Moment) → Among m (connection past) → Among m (moments past) × (number m ≡ begun past)
connection-inside past m a = let parts = those-among (λ m. number m == begun past) (moments past) m a in (parts.0, eqb-true (number m) (begun past) parts.1)

-- a SUBACK that answers j is sent under an identifier whose first unanswered SUBSCRIBE is at its position
record AnswersIt (j t : Moment) : Type 0 where
  grant : Grant
  is_sent : sent_grant (note t) ≡ Some grant
  first : Moment
  is_first : first_unanswered subscribe_suback grant.identifier t ≡ Some first
  same : position j ≡ position first

answers-it : (j t : Moment) → answers_subscribe j t ≡ true → AnswersIt j t
answers-it j t h = go (sent_grant (note t)) refl h
  where
    within : (a : Grant) → sent_grant (note t) ≡ Some a → (o : Option Moment) → first_unanswered subscribe_suback a.identifier t ≡ o → is_some_and (is_same j) o ≡ true → AnswersIt j t
    within a p None q h = absurd (cc)
    within a p (Some m) q h = record { grant = a; is_sent = p; first = m; is_first = q; same = eqb-true (position j) (position m) h }

    go : (o : Option Grant) → sent_grant (note t) ≡ o → is_some_and (λ a. is_some_and (is_same j) (first_unanswered subscribe_suback a.identifier t)) o ≡ true → AnswersIt j t
    go None p h = absurd (cc)
    go (Some a) p h = within a p (first_unanswered subscribe_suback a.identifier t) refl h

unanswering : (j t : Moment) → (AnswersIt j t → ⊥) → gives j t ≡ None
unfolding gives
unanswering j t h = ap (λ b. only b (option_map (λ a. a.codes) (sent_grant (note t)))) (not_true (answers_subscribe j t) (λ is. h (answers-it j t is)))

-- it is before that SUBACK
comes-before : (j t : Moment) → AnswersIt j t → position j < position t
comes-before j t r =
    let inside = connection-inside t.past r.first (first-stands r.grant.identifier t r.first r.is_first).there in
    let le = among-within r.first t.past inside.0 in
    let same = r.same in
    omega (arith, le, same)

-- ---- one event more

pub given-next : (e : Seen) (past : List Seen) (j : Moment)
    → codes_given (e ∷ past) j ≡ option_or (codes_given past j) (cond (begun (e ∷ past) == number j) (only (answers_subscribe j (newest e past)) (option_map (λ a. a.codes) (sent_grant e.note))) None)
given-next e past j = go (begun (e ∷ past) == number j)
  where
    rest : List Moment
    rest = of_connection (number j) past

    found : Moment → Option (List ℕ)
    found t = only (answers_subscribe j t) (option_map (λ a. a.codes) (sent_grant (note t)))

    go : (b : Bool) → first_given found (cond b (newest e past ∷ rest) rest) ≡ option_or (first_given found rest) (cond b (found (newest e past)) None)
    go true = refl
    go false = sym (option_or-none (first_given found rest))

-- without a SUBACK they stay
pub given-same : (e : Seen) (past : List Seen) (j : Moment) → sent_grant e.note ≡ None → codes_given (e ∷ past) j ≡ codes_given past j
given-same e past j h =
    given-next e past j
    ∙ ap (λ o. option_or (codes_given past j) (cond (begun (e ∷ past) == number j) (only (is_some_and (λ a. is_some_and (is_same j) (first_unanswered subscribe_suback a.identifier (newest e past))) o) (option_map (λ (a : Grant). a.codes) o)) None)) h
    ∙ ap (option_or (codes_given past j)) (none (begun (e ∷ past) == number j)) ∙ option_or-none (codes_given past j)
  where
    none : (b : Bool) → cond {A = Option (List ℕ)} b None None ≡ None
    none true = refl
    none false = refl

-- a SUBSCRIBE has no SUBACK when it comes
pub given-newest : (e : Seen) (past : List Seen) → codes_given (e ∷ past) (newest e past) ≡ None
unfolding gives
given-newest e past = none-given (gives (newest e past)) (of_connection (number (newest e past)) (e ∷ past)) (λ t a. unanswering (newest e past) t (λ r.
    let inside = those-among (λ m. number m == number (newest e past)) (moments (e ∷ past)) t a in
    let le : position t ≤ length past + 1 = (let within = among-within t (e ∷ past) inside.0 in omega arith) in
    let before : length past + 1 < position t = comes-before (newest e past) t r in
    absurd (omega (arith, le, before))))

-- ---- moments of a log

-- what comes before a moment of the log is in the log
pub earlier-inside : (log : List Seen) (t : Moment) → Among t (moments log) → (n : Moment) → Among n (moments t.past) → Among n (moments log)
earlier-inside [] t a n b = absurd a
earlier-inside (e ∷ past) t (inl is) n b = inr (subst (λ (m : Moment). Among n (moments m.past)) is b)
earlier-inside (e ∷ past) t (inr a) n b = inr (earlier-inside past t a n b)

-- two at the same position are one
pub same-moment : (log : List Seen) (m n : Moment) → Among m (moments log) → Among n (moments log) → position m ≡ position n → m ≡ n
same-moment log m n a b same = some_is m n (sym (among-moment m log a) ∙ ap (moment log) same ∙ among-moment n log b)
  where
    some_is : (x y : Moment) → Some x ≡ Some y → x ≡ y
    some_is x y h = cc

-- an identifier that is this one, and also that one
alike : (i j : ℕ) (o : Option ℕ) → is_id i o ≡ true → is_id j o ≡ true → (i == j) ≡ true
alike i j None h k = absurd (cc)
alike i j (Some x) h k = grind (arith, nat_tests)

-- the first unanswered SUBSCRIBE has none
pub given-unanswered : (i : ℕ) (e : Seen) (past : List Seen) (m : Moment) → first_unanswered subscribe_suback i (newest e past) ≡ Some m → codes_given past m ≡ None
unfolding gives
given-unanswered i e past m h = none-given (gives m) (of_connection (number m) past) (λ t a. unanswering m t (λ r. refuted t a r))
  where
    stands : IsEarliestSince (causes subscribe_suback i) (answers subscribe_suback i) (connection past) m
    stands = first-stands i (newest e past) m h

    inside : Among m (moments past) × (number m ≡ begun past)
    inside = connection-inside past m stands.there

    refuted : (t : Moment) → Among t (of_connection (number m) past) → AnswersIt m t → ⊥
    refuted t a r =
        let before = comes-before m t r in
        let here : Among t (connection past) = subst (λ c. Among t (of_connection c past)) inside.1 a in
        let ended : is_id i (subscribe_suback.answer (note t)) ≡ false = stands.none_after t here before in
        let first = first-stands r.grant.identifier t r.first r.is_first in
        let earlier = earlier-inside past t (connection-inside past t here).0 r.first (connection-inside t.past r.first first.there).0 in
        let same : r.first ≡ m = same-moment past r.first m earlier inside.0 (sym r.same) in
        let named : is_id r.grant.identifier (subscribe_suback.cause (note m)) ≡ true = ap (λ (n : Moment). is_id r.grant.identifier (subscribe_suback.cause (note n))) (sym same) ∙ first.passes in
        let under : (i == r.grant.identifier) ≡ true = alike i r.grant.identifier (subscribe_suback.cause (note m)) stands.passes named in
        let sent : is_id i (subscribe_suback.answer (note t)) ≡ true = subscribes_so.answers_are (note t) i ∙ ap (λ o. names i (option_map grant_count o)) r.is_sent ∙ under in
        absurd (let bad : true ≡ false = sym sent ∙ ended in cc)

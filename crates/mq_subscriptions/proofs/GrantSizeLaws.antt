-- How much the book of what is granted keeps: no more than the filters that were asked for.
use Rattle.std.proofs.Common.{◌≡◌, ℕ, ◌≤◌, ◌==◌, arith, nat_eq, Bool, true, false, cond, List, [], ◌∷◌, length, Option, Some, None, refl, ap, sym, ◌∙◌}
use Rattle.std.specs.Prelude.{option_map}
use Rattle.std.specs.Option.{option_and_then}
use Rattle.std.specs.List.{IsDistinct, sum_by}
use Rattle.std.specs.Map.{keys_of, lookup}
use Rattle.mq_rules.specs.declared.note.Seen.{Seen}
use Rattle.mq_rules.specs.declared.text.NotedFilter.{NotedFilter}
use Rattle.mq_rules.specs.Words.{is_id, only}
use Rattle.mq_rules.specs.Notes.{Subscription, received_subscription}
use Rattle.mq_rules.specs.Moments.{Moment, note, moments, earliest_since, Among, IsEarliestSince}
use Rattle.mq_rules.specs.Connections.{begun, number, is_connected, connection}
use Rattle.mq_rules.specs.Exchanges.{causes, answers, subscribe_suback}
use Rattle.mq_rules.specs.Subscriptions.{granted, requested_each}
use Rattle.mq_rules.proofs.Exports.{moments-descend, those-descend, earliest_since-is}
use Rattle.mq_subscriptions.specs.Standings.{waiting_from, weighed}
use Rattle.mq_subscriptions.specs.Burden.{at_least_one, asked_filters}
use Rattle.mq_subscriptions.specs.Grantings.{asked_in, first_asked, AreAsked}
use Rattle.mq_subscriptions.proofs.AskingSizeLaws.{waits-here}
use Rattle.mq_subscriptions.proofs.EntrySizeLaws.{HasOne, distinct-sum}

-- how much what a SUBSCRIBE asks for counts
abbrev size : List ℕ → ℕ
size asked = at_least_one (length asked)

same-length : (fs : List NotedFilter) → length (requested_each fs) ≡ length fs
same-length [] = refl
same-length (f ∷ fs) = let rest = same-length fs in omega (arith, rest)

granted-length : (fs : List NotedFilter) → length (granted fs []) ≡ length fs
granted-length [] = refl
granted-length (f ∷ fs) = let rest = granted-length fs in omega (arith, rest)

abbrev pub counted : List Seen → Moment → ℕ
counted log j = weighed (λ w. at_least_one (length w.filters)) (waiting_from log j)

-- The first unanswered SUBSCRIBE waits, and counts its filters.
pub record WaitsFirst (log : List Seen) (i : ℕ) (j : Moment) : Type 0 where
  pub asked_is : Subscription
  pub request : received_subscription (note j) ≡ Some asked_is
  pub there : Among j (connection log)
  pub named : is_id i (subscribe_suback.cause (note j)) ≡ true
  pub counts : counted log j ≡ at_least_one (length asked_is.filters)

pub first-waits : (log : List Seen) (i : ℕ) (j : Moment) → is_connected log ≡ true → earliest_since (causes subscribe_suback i) (answers subscribe_suback i) (connection log) ≡ Some j → WaitsFirst log i j
first-waits log i j connected p =
    let s : IsEarliestSince (causes subscribe_suback i) (answers subscribe_suback i) (connection log) j =
    earliest_since-is (causes subscribe_suback i) (answers subscribe_suback i) (connection log) j (those-descend (λ m. number m == begun log) (moments log) (moments-descend log)) p in
    let w = waits-here i log connected j s.there s.passes s.none_after in
    record { asked_is = w.0; request = w.1; there = s.there; named = s.passes; counts = ap (weighed (λ w. at_least_one (length w.filters))) w.3 ∙ ap at_least_one (granted-length w.0.filters) }

waits-first : (log : List Seen) (i : ℕ) (v : List ℕ) → first_asked i log ≡ Some v → HasOne subscribe_suback size (connection log) (counted log) i v
waits-first log i v h = go (is_connected log) refl h
  where
    find : List Moment → Option Moment
    find ms = earliest_since (causes subscribe_suback i) (answers subscribe_suback i) ms

    kept : is_connected log ≡ true → (o : Option Moment) → find (connection log) ≡ o → option_and_then (λ m. asked_in (note m)) o ≡ Some v → HasOne subscribe_suback size (connection log) (counted log) i v
    kept connected None p h = absurd (cc)
    kept connected (Some j) p h =
        let w = first-waits log i j connected p in
        let same : requested_each w.asked_is.filters ≡ v = some_is (requested_each w.asked_is.filters) v (sym (ap (option_map (λ s. requested_each s.filters)) w.request) ∙ h) in
        let long : length v ≡ length w.asked_is.filters = sym (ap length same) ∙ same-length w.asked_is.filters in
        let counts : counted log j ≡ size v = w.counts ∙ ap at_least_one (sym long) in
        (j, w.there, w.named, omega (arith, counts))
      where
        some_is : (a b : List ℕ) → Some a ≡ Some b → a ≡ b
        some_is a b h = cc

    go : (b : Bool) → is_connected log ≡ b → option_and_then (λ m. asked_in (note m)) (find (cond b (connection log) [])) ≡ Some v → HasOne subscribe_suback size (connection log) (counted log) i v
    go true connected h = kept connected (find (connection log)) refl h
    go false closed h = absurd (cc)

pub grants-within : (bound : Bool) (es : List (ℕ × List ℕ)) (log : List Seen) → IsDistinct nat_eq (keys_of es) → AreAsked bound (λ i. lookup (nat_eq i) es) log → sum_by (λ e. at_least_one (length e.1)) es ≤ asked_filters log
unfolding asked_filters
grants-within bound es log distinct are = distinct-sum subscribe_suback size es distinct (connection log) (counted log) (λ i v h. go bound i v (sym (are.asked_are i) ∙ h))
  where
    go : (b : Bool) (i : ℕ) (v : List ℕ) → only b (first_asked i log) ≡ Some v → HasOne subscribe_suback size (connection log) (counted log) i v
    go true i v h = waits-first log i v h
    go false i v h = absurd (cc)

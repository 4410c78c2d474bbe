-- How much the book of deletions keeps: no more than the filters of the session's requests, and those of the requests that wait.
use Rattle.std.proofs.Common.{◌≡◌, ℕ, zero, suc, ◌+◌, ◌*◌, ◌≤◌, ◌==◌, arith, nat_eq, Bool, true, false, cond, ◌&&◌, ◌||◌, not, List, [], ◌∷◌, ◌++◌, length, Option, Some, None, refl, ap, sym, ◌∙◌}
use Rattle.std.specs.Prelude.{is_some, option_map}
use Rattle.std.specs.Option.{option_and_then}
use Rattle.std.specs.Str.{bytes_eq}
use Rattle.std.specs.declared.string.String.{String}
use Rattle.std.specs.String.{string_bytes, string_eq}
use Rattle.std.specs.Set.{unique_keys, distinct_count}
use Rattle.std.specs.List.{IsDistinct, AllByRecursion, list_any, sum_by}
use Rattle.std.specs.Map.{keys_of, lookup}
use Rattle.std.proofs.lemmas.Bool.{eq-eqb, eqb-true}
use Rattle.std.proofs.lemmas.Cmp.{nat_list_eq_equiv}
use Rattle.std.proofs.lemmas.List.Folds.{list_any-append}
use Rattle.std.proofs.lemmas.Map.Made.{length-le_from_is_member}
use Rattle.std.proofs.lemmas.Map.Steps.{list_any_congr}
use Rattle.mq_rules.specs.declared.role.Tested.{Tested}
use Rattle.mq_rules.specs.declared.fate.Fate.{Fate}
use Rattle.mq_rules.specs.declared.rule.Rule.TheVariants.{B06}
use Rattle.mq_rules.specs.declared.note.Seen.{Seen}
use Rattle.mq_rules.specs.declared.text.NotedFilter.{NotedFilter}
use Rattle.mq_rules.specs.Words.{is_some_and, is_id, only}
use Rattle.mq_rules.specs.Notes.{Subscription, received_subscription, received_unsubscription}
use Rattle.mq_rules.specs.Moments.{Moment, note, position, moments, latest, earliest_since, is_same, is_unended, IsEarliestSince}
use Rattle.mq_rules.specs.Connections.{begun, number, is_connected, connection, on_open, accepted, session}
use Rattle.mq_rules.specs.Exchanges.{causes, answers, subscribe_suback, unsubscribe_unsuback}
use Rattle.mq_rules.specs.FurtherSubscriptions.{has_filter, asks_about, subscribed_each}
use Rattle.mq_rules.specs.Rules.{binds}
use Rattle.mq_rules.proofs.Exports.{earliest_since-is, moments-descend, on_open-connected, stands-since, those-descend}
use Rattle.mq_fates.specs.Holding.{total, number_in}
use Rattle.mq_subscriptions.specs.declared.requested.FilterState.{FilterState}
use Rattle.mq_subscriptions.specs.Burden.{at_least_one, asked_filters, names_of, names_in, requested_filters, requested_count, is_unanswered, removed_filters, deletions_burden}
use Rattle.mq_subscriptions.specs.Firsts.{found_first}
use Rattle.mq_subscriptions.specs.Deletings.{Subscribes, Removes, is_granted, removes_weigh, state_of, state_in, subscribes_of, removes_of}
use Rattle.mq_subscriptions.proofs.EntrySizeLaws.{HasOne, distinct-sum}
use Rattle.mq_subscriptions.proofs.GrantSizeLaws.{counted, first-waits}
use Rattle.mq_subscriptions.proofs.DeletionLaws.{removal-of}

-- ---- filters

names-any : (f : List ℕ) (gs : List NotedFilter) → list_any (bytes_eq f) (names_of gs) ≡ has_filter f gs
names-any f [] = refl
names-any f (g ∷ gs) = ap (λ b. bytes_eq f g.filter || b) (names-any f gs)

asked-named : (f : List ℕ) (o p : Option Subscription) → list_any (bytes_eq f) (names_in o ++ names_in p) ≡ (is_some_and (λ s. has_filter f s.filters) o || is_some_and (λ s. has_filter f s.filters) p)
asked-named f o p = list_any-append (bytes_eq f) (names_in o) (names_in p) ∙ ap (λ b. b || list_any (bytes_eq f) (names_in p)) (one o) ∙ ap (λ b. is_some_and (λ s. has_filter f s.filters) o || b) (one p)
  where
    one : (o : Option Subscription) → list_any (bytes_eq f) (names_in o) ≡ is_some_and (λ s. has_filter f s.filters) o
    one None = refl
    one (Some s) = names-any f s.filters

latest-named : (f : List ℕ) (ms : List Moment) → is_some (latest (asks_about f) ms) ≡ true → list_any (bytes_eq f) (requested_filters ms) ≡ true
latest-named f [] h = h
latest-named f (m ∷ ms) h =
    list_any-append (bytes_eq f) (names_in (received_subscription (note m)) ++ names_in (received_unsubscription (note m))) (requested_filters ms)
    ∙ ap (λ b. b || list_any (bytes_eq f) (requested_filters ms)) (asked-named f (received_subscription (note m)) (received_unsubscription (note m)))
    ∙ go (asks_about f m) h (latest-named f ms)
  where
    go : (b : Bool) → is_some (cond b (Some m) (latest (asks_about f) ms)) ≡ true → (is_some (latest (asks_about f) ms) ≡ true → list_any (bytes_eq f) (requested_filters ms) ≡ true) → (b || list_any (bytes_eq f) (requested_filters ms)) ≡ true
    go true h rest = refl
    go false h rest = rest h

-- each filter of which something is known is one of a request of the session
pub known-named : (past : List Seen) (f : List ℕ) (ms : List Moment) (o : Option FilterState) → o ≡ state_in past f ms → is_some o ≡ true → list_any (bytes_eq f) (requested_filters ms) ≡ true
known-named past f ms o is h = latest-named f ms (go (latest (asks_about f) ms) (ap is_some (sym is) ∙ h))
  where
    go : (o : Option Moment) → is_some (option_map (state_of past f ms) o) ≡ true → is_some o ≡ true
    go None h = h
    go (Some j) h = refl

-- ---- a map from texts

-- each text of a list is among the different ones
unique-has : (fs : List (List ℕ)) (f : List ℕ) → list_any (bytes_eq f) fs ≡ true → list_any (bytes_eq f) (unique_keys bytes_eq fs) ≡ true
unique-has [] f h = h
unique-has (g ∷ fs) f h = go (bytes_eq f g) refl (list_any (bytes_eq g) fs) refl h (unique-has fs f)
  where
    go : (a : Bool) → bytes_eq f g ≡ a → (b : Bool) → list_any (bytes_eq g) fs ≡ b → (a || list_any (bytes_eq f) fs) ≡ true → (list_any (bytes_eq f) fs ≡ true → list_any (bytes_eq f) (unique_keys bytes_eq fs) ≡ true)
        → list_any (bytes_eq f) (cond b (unique_keys bytes_eq fs) (g ∷ unique_keys bytes_eq fs)) ≡ true
    go true n true m h rest = rest (list_any_congr nat_list_eq_equiv f g fs n ∙ m)
    go true n false m h rest = ap (λ a. a || list_any (bytes_eq f) (unique_keys bytes_eq fs)) n
    go false n true m h rest = rest h
    go false n false m h rest = ap (λ a. a || list_any (bytes_eq f) (unique_keys bytes_eq fs)) n ∙ rest h

module _ {Y V : Type 0} where
  abbrev keys : List (String Y × V) → List (List ℕ)
  keys [] = []
  keys (e ∷ es) = string_bytes e.0 ∷ keys es

  keys-length : (es : List (String Y × V)) → length (keys es) ≡ length es
  keys-length [] = refl
  keys-length (e ∷ es) = let rest = keys-length es in omega (arith, rest)

  keys-apart : (k : String Y) (es : List (String Y × V)) → AllByRecursion (λ y. string_eq k y ≡ false) (keys_of es) → AllByRecursion (λ y. bytes_eq (string_bytes k) y ≡ false) (keys es)
  keys-apart k [] h = tt
  keys-apart k (e ∷ es) h = (h.0, keys-apart k es h.1)

  keys-distinct : (es : List (String Y × V)) → IsDistinct string_eq (keys_of es) → IsDistinct bytes_eq (keys es)
  unfolding IsDistinct
  keys-distinct [] h = tt
  keys-distinct (e ∷ es) h = (keys-apart e.0 es h.0, keys-distinct es h.1)

  keys-any : (f : List ℕ) (es : List (String Y × V)) → list_any (bytes_eq f) (keys es) ≡ is_some (lookup (λ k. bytes_eq f (string_bytes k)) es)
  keys-any f [] = refl
  keys-any f (e ∷ es) = go (bytes_eq f (string_bytes e.0)) (keys-any f es)
    where
      go : (b : Bool) → list_any (bytes_eq f) (keys es) ≡ is_some (lookup (λ k. bytes_eq f (string_bytes k)) es) → (b || list_any (bytes_eq f) (keys es)) ≡ is_some (cond b (Some e.1) (lookup (λ k. bytes_eq f (string_bytes k)) es))
      go true h = refl
      go false h = h

  -- its texts are no more than the different ones of a list that has each of them
  pub texts-within : (es : List (String Y × V)) (fs : List (List ℕ)) → IsDistinct string_eq (keys_of es) → ((f : List ℕ) → is_some (lookup (λ k. bytes_eq f (string_bytes k)) es) ≡ true → list_any (bytes_eq f) fs ≡ true)
      → length es ≤ distinct_count bytes_eq fs
  texts-within es fs distinct within =
      let le : length (keys es) ≤ length (unique_keys bytes_eq fs) = length-le_from_is_member nat_list_eq_equiv (keys es) (unique_keys bytes_eq fs) (keys-distinct es distinct) (λ f here. unique-has fs f (within f (sym (keys-any f es) ∙ here))) in
      let long = keys-length es in
      omega (arith, le, long)

-- ---- SUBSCRIBEs that wait

abbrev subscribes_weigh : Subscribes → ℕ
subscribes_weigh v = at_least_one (length v.filters)

pub waiting-within : (tested : Tested) (taken : Option Fate) (es : List (ℕ × Subscribes)) (log : List Seen) → IsDistinct nat_eq (keys_of es) → ((i : ℕ) → lookup (nat_eq i) es ≡ only (accepted taken) (found_first subscribe_suback subscribes_of i log))
    → sum_by (λ e. at_least_one (length e.1.filters)) es ≤ asked_filters log
unfolding asked_filters
waiting-within tested taken es log distinct are = distinct-sum subscribe_suback subscribes_weigh es distinct (connection log) (counted log) (λ i v h. kept i v (accepted taken) (is_connected log) refl (sym (are i) ∙ h))
  where
    find : ℕ → List Moment → Option Moment
    find i ms = earliest_since (causes subscribe_suback i) (answers subscribe_suback i) ms

    some_is : (a b : Subscribes) → Some a ≡ Some b → a ≡ b
    some_is a b h = cc

    at : (i : ℕ) (v : Subscribes) → is_connected log ≡ true → (o : Option Moment) → find i (connection log) ≡ o → option_and_then subscribes_of o ≡ Some v → HasOne subscribe_suback subscribes_weigh (connection log) (counted log) i v
    at i v connected None p h = absurd (cc)
    at i v connected (Some j) p h =
        let w = first-waits log i j connected p in
        let same = some_is (record { at = position j; filters = w.asked_is.filters }) v (sym (ap (option_map (λ s. record { at = position j; filters = s.filters })) w.request) ∙ h) in
        let counts : counted log j ≡ subscribes_weigh v = w.counts ∙ ap subscribes_weigh same in
        (j, w.there, w.named, omega (arith, counts))

    kept : (i : ℕ) (v : Subscribes) (b c : Bool) → is_connected log ≡ c → only b (option_and_then subscribes_of (find i (cond c (connection log) []))) ≡ Some v → HasOne subscribe_suback subscribes_weigh (connection log) (counted log) i v
    kept i v true true connected h = at i v connected (find i (connection log)) refl h
    kept i v true false closed h = absurd (cc)
    kept i v false c closed h = absurd (cc)

-- ---- UNSUBSCRIBEs that wait

each-length : (subscribed : List ℕ → Bool) (gs : List NotedFilter) → length (subscribed_each subscribed gs) ≡ length gs
each-length subscribed [] = refl
each-length subscribed (g ∷ gs) = let rest = each-length (λ f. subscribed f && not (bytes_eq f g.filter)) gs in omega (arith, rest)

abbrev removal_counts : List Seen → Moment → ℕ
removal_counts log j = cond (is_unanswered unsubscribe_unsuback log j) (number_in (λ s. at_least_one (length s.filters)) (received_unsubscription (note j))) 0

total-twice : (n : Moment → ℕ) (ms : List Moment) → total (λ j. n j + n j) ms ≡ 2 * total n ms
total-twice n [] = refl
total-twice n (m ∷ ms) = let rest = total-twice n ms in omega (arith, rest)

at-least : (n : ℕ) → n ≤ at_least_one n
at-least zero = omega arith
at-least (suc n) = omega arith

pub removing-within : (tested : Tested) (taken : Option Fate) (es : List (ℕ × Removes)) (log : List Seen) → IsDistinct nat_eq (keys_of es)
    → ((i : ℕ) → lookup (nat_eq i) es ≡ only (accepted taken) (found_first unsubscribe_unsuback (removes_of tested.role taken) i log)) → sum_by (λ e. removes_weigh e.1) es ≤ 2 * removed_filters log
unfolding removed_filters
removing-within tested taken es log distinct are =
    let sum = distinct-sum unsubscribe_unsuback removes_weigh es distinct (connection log) (λ j. removal_counts log j + removal_counts log j) (λ i v h. kept i v (accepted taken) (is_connected log) refl (sym (are i) ∙ h)) in
    let twice = total-twice (removal_counts log) (connection log) in
    omega (arith, sum, twice)
  where
    find : ℕ → List Moment → Option Moment
    find i ms = earliest_since (causes unsubscribe_unsuback i) (answers unsubscribe_unsuback i) ms

    made : Moment → Subscription → Removes
    made m s = record { at = position m; filters = s.filters; subscribed = subscribed_each (λ f. is_granted (state_in m.past f (session tested.role taken m.past))) s.filters }

    some_is : (a b : Removes) → Some a ≡ Some b → a ≡ b
    some_is a b h = cc

    at : (i : ℕ) (v : Removes) → is_connected log ≡ true → (o : Option Moment) → find i (connection log) ≡ o → option_and_then (removes_of tested.role taken) o ≡ Some v
        → HasOne unsubscribe_unsuback removes_weigh (connection log) (λ j. removal_counts log j + removal_counts log j) i v
    at i v connected None p h = absurd (cc)
    at i v connected (Some j) p h =
        let s : IsEarliestSince (causes unsubscribe_unsuback i) (answers unsubscribe_unsuback i) (connection log) j =
        earliest_since-is (causes unsubscribe_unsuback i) (answers unsubscribe_unsuback i) (connection log) j (those-descend (λ m. number m == begun log) (moments log) (moments-descend log)) p in
        let r = removal-of i (note j) s.passes in
        let same : made j r.0 ≡ v = some_is (made j r.0) v (sym (ap (option_map (made j)) r.1) ∙ h) in
        let long : length v.filters ≡ length r.0.filters = sym (ap (λ (w : Removes). length w.filters) same) in
        let each : length v.subscribed ≡ length r.0.filters = sym (ap (λ (w : Removes). length w.subscribed) same) ∙ each-length (λ f. is_granted (state_in j.past f (session tested.role taken j.past))) r.0.filters in
        let counts : removal_counts log j ≡ at_least_one (length r.0.filters) = ap (λ b. cond b (number_in (λ s. at_least_one (length s.filters)) (received_unsubscription (note j))) 0) (unanswered i j s (unsubscribe_unsuback.cause (note j)) s.passes)
        ∙ ap (number_in (λ s. at_least_one (length s.filters))) r.1 in
        let first : at_least_one (length v.filters) ≡ at_least_one (length r.0.filters) = ap at_least_one long in
        let least = at-least (length r.0.filters) in
        (j, s.there, s.passes, omega (arith, first, each, counts, least))
      where
        unanswered : (i : ℕ) (j : Moment) → IsEarliestSince (causes unsubscribe_unsuback i) (answers unsubscribe_unsuback i) (connection log) j → (o : Option ℕ) → is_id i o ≡ true → is_some_and (λ i. is_unended j (answers unsubscribe_unsuback i) (on_open log)) o ≡ true
        unanswered i j s None h = absurd (cc)
        unanswered i j s (Some x) h =
            ap (λ i. is_unended j (answers unsubscribe_unsuback i) (on_open log)) (sym (eqb-true i x h))
            ∙ ap (is_unended j (answers unsubscribe_unsuback i)) (on_open-connected log connected)
            ∙ stands-since (is_same j) (answers unsubscribe_unsuback i) (connection log) (those-descend (λ m. number m == begun log) (moments log) (moments-descend log))
            (record { at = j; there = s.there; passes = eq-eqb (position j) (position j) refl; none_after = s.none_after })

    kept : (i : ℕ) (v : Removes) (b c : Bool) → is_connected log ≡ c → only b (option_and_then (removes_of tested.role taken) (find i (cond c (connection log) []))) ≡ Some v
        → HasOne unsubscribe_unsuback removes_weigh (connection log) (λ j. removal_counts log j + removal_counts log j) i v
    kept i v true true connected h = at i v connected (find i (connection log)) refl h
    kept i v true false closed h = absurd (cc)
    kept i v false c closed h = absurd (cc)

-- ---- together

pub deletions-within : (tested : Tested) (bound : Bool) (taken : Option Fate) (past : List Seen) (weighs known waiting removing : ℕ) → bound ≡ binds B06 tested → (bound ≡ false → weighs ≡ 0) → weighs ≡ known + waiting + removing
    → (bound ≡ true → known ≤ requested_count tested.role taken past) → (bound ≡ true → waiting ≤ asked_filters past) → (bound ≡ true → removing ≤ 2 * removed_filters past) → weighs ≤ 2 * deletions_burden tested taken past
deletions-within tested true taken past weighs known waiting removing is none sum a b c =
    let burden : deletions_burden tested taken past ≡ requested_count tested.role taken past + asked_filters past + removed_filters past = ap (λ b. cond b (requested_count tested.role taken past + asked_filters past + removed_filters past) 0) (sym is) in
    let x = a refl in let y = b refl in let z = c refl in
    omega (arith, burden, sum, x, y, z)
deletions-within tested false taken past weighs known waiting removing is none sum a b c = let nothing = none refl in omega (arith, nothing)

-- How many SUBSCRIBEs wait for their SUBACK, and how many filters they have.
use Rattle.std.proofs.Common.{◌≡◌, ℕ, zero, suc, ◌+◌, ◌*◌, ◌<◌, ◌≤◌, ◌==◌, arith, nat_eq, Bool, true, false, cond, ◌&&◌, ◌||◌, List, [], ◌∷◌, length, Option, Some, None, refl, ap, sym, ◌∙◌, subst, inl, inr}
use Rattle.std.specs.Prelude.{is_none, option_map}
use Rattle.std.specs.Option.{option_and_then}
use Rattle.std.specs.List.{list_any}
use Rattle.std.proofs.lemmas.Bool.{eqb-true, eq-eqb, ltb-true}
use Rattle.std.proofs.lemmas.Bool.Decides.{nat_tests}
use Rattle.mq_rules.specs.declared.role.Role.{Role}
use Rattle.mq_rules.specs.declared.fate.Fate.{Fate}
use Rattle.mq_rules.specs.declared.note.Note.{Note}
use Rattle.mq_rules.specs.declared.note.Seen.{Seen}
use Rattle.mq_rules.specs.Words.{is_id, only}
use Rattle.mq_rules.specs.Notes.{is_open, Subscription, Grant, received_subscription, sent_grant}
use Rattle.mq_rules.specs.Moments.{Moment, newest, note, moments, position, is_after, since, those, Among, HoldsSince}
use Rattle.mq_rules.specs.Connections.{begun, number, is_connected, of_connection, connection, on_open, latest_fate, begins, has_session, with_first, session}
use Rattle.mq_rules.specs.Exchanges.{causes, answers, subscribe_suback}
use Rattle.mq_rules.specs.Subscriptions.{codes_under}
use Rattle.mq_rules.proofs.Exports.{and_false, moments-descend, those-among, those-descend, since-stands, none-first_found}
use Rattle.mq_subscriptions.specs.Countings.{names, subscription_count, grant_count, subscribes_so}
use Rattle.mq_subscriptions.specs.Standings.{Waits, asked, codes_in, waiting_by, waiting_from, waits_weight, weighed}
use Rattle.mq_fates.specs.Holding.{total}
use Rattle.mq_subscriptions.specs.Burden.{at_least_one, unanswered_ids, asked_filters}
use Rattle.mq_fates.proofs.Exports.{ids-listed}

-- ---- the SUBSCRIBEs of a session are on its connections

-- a number that only moments of one connection have
session-within : (role : Role) (number_of : Moment → ℕ) (c : ℕ) → ((m : Moment) → (number m == c) ≡ false → number_of m ≡ 0) → (taken : Option Fate) (log : List Seen) → total number_of (session role taken log) ≤ total number_of (of_connection c log)
session-within role number_of c none taken [] = omega arith
session-within role number_of c none taken (e ∷ past) =
    go (has_session role taken e past) (is_open e.note) (begins taken) (number (newest e past) == c) refl (session-within role number_of c none (latest_fate role past) past) (session-within role number_of c none taken past)
  where
    rest : List Moment
    rest = of_connection c past

    inner : Bool → Bool → List Moment
    inner o n = cond o (cond n [] (session role (latest_fate role past) past)) (session role taken past)

    go : (b o n k : Bool) → (number (newest e past) == c) ≡ k → total number_of (session role (latest_fate role past) past) ≤ total number_of rest → total number_of (session role taken past) ≤ total number_of rest
        → total number_of (with_first b (newest e past) (inner o n)) ≤ total number_of (cond k (newest e past ∷ rest) rest)
    go b o n k is first second = put b k is (within o n)
      where
        within : (o n : Bool) → total number_of (inner o n) ≤ total number_of rest
        within true true = omega arith
        within true false = first
        within false n = second

        put : (b k : Bool) → (number (newest e past) == c) ≡ k → total number_of (inner o n) ≤ total number_of rest → total number_of (with_first b (newest e past) (inner o n)) ≤ total number_of (cond k (newest e past ∷ rest) rest)
        put true true is le = omega (arith, le)
        put true false is le = let nothing = none (newest e past) is in omega (arith, le, nothing)
        put false true is le = omega (arith, le)
        put false false is le = le

-- what waits is on the latest connection, which is open
elsewhere : (weigh : Waits → ℕ) (log : List Seen) (m : Moment) → (number m == begun log) ≡ false → weighed weigh (waiting_from log m) ≡ 0
elsewhere weigh log m is =
    let other : (begun log == number m) ≡ false = grind (arith, nat_tests) in
    ap (λ b. weighed weigh (waiting_by b (codes_in log m) (received_subscription (note m)))) (ap (λ b. is_connected log && b) other ∙ and_false (is_connected log))

-- itself and its filters are at most twice its filters
at-most-twice : (n : ℕ) → 1 + n ≤ 2 * at_least_one n
at-most-twice zero = omega arith
at-most-twice (suc n) = omega arith

doubled : (log : List Seen) (ms : List Moment) → total (λ j. weighed waits_weight (waiting_from log j)) ms ≤ 2 * total (λ j. weighed (λ w. at_least_one (length w.filters)) (waiting_from log j)) ms
doubled log [] = omega arith
doubled log (j ∷ js) = let rest = doubled log js in let first = go (waiting_from log j) in omega (arith, rest, first)
  where
    go : (o : Option Waits) → weighed waits_weight o ≤ 2 * weighed (λ w. at_least_one (length w.filters)) o
    go None = omega arith
    go (Some w) = at-most-twice (length w.filters)

pub asking-within : (role : Role) (taken : Option Fate) (log : List Seen) → total (λ j. weighed waits_weight (waiting_from log j)) (session role taken log) ≤ 2 * asked_filters log
unfolding asked_filters
asking-within role taken log =
    let inside = session-within role (λ j. weighed waits_weight (waiting_from log j)) (begun log) (elsewhere waits_weight log) taken log in
    let twice = doubled log (connection log) in
    omega (arith, inside, twice)

-- ---- identifiers of SUBSCRIBEs that wait

abbrev named_by : Option Waits → List ℕ → List ℕ
named_by None is = is
named_by (Some w) is = w.identifier ∷ is

abbrev named : List Seen → List Moment → List ℕ
named log [] = []
named log (j ∷ js) = named_by (waiting_from log j) (named log js)

named-length : (log : List Seen) (ms : List Moment) → length (named log ms) ≤ total (λ j. weighed (λ w. at_least_one (length w.filters)) (waiting_from log j)) ms
named-length log [] = omega arith
named-length log (j ∷ js) = go (waiting_from log j) (named-length log js)
  where
    one : (n : ℕ) → 1 ≤ at_least_one n
    one zero = omega arith
    one (suc n) = omega arith

    go : (o : Option Waits) → length (named log js) ≤ total (λ j. weighed (λ w. at_least_one (length w.filters)) (waiting_from log j)) js
        → length (named_by o (named log js)) ≤ weighed (λ w. at_least_one (length w.filters)) o + total (λ j. weighed (λ w. at_least_one (length w.filters)) (waiting_from log j)) js
    go None h = omega (arith, h)
    go (Some w) h = let least = one (length w.filters) in omega (arith, h, least)

named-there : (log : List Seen) (i : ℕ) (ms : List Moment) (j : Moment) (w : Waits) → Among j ms → waiting_from log j ≡ Some w → (i == w.identifier) ≡ true → list_any (nat_eq i) (named log ms) ≡ true
named-there log i [] j w a is same = absurd a
named-there log i (m ∷ ms) j w (inl here) is same =
    ap (λ o. list_any (nat_eq i) (named_by o (named log ms))) (ap (waiting_from log) (sym here) ∙ is) ∙ ap (λ b. b || list_any (nat_eq i) (named log ms)) same
named-there log i (m ∷ ms) j w (inr there) is same = go (waiting_from log m) (named-there log i ms j w there is same)
  where
    go : (o : Option Waits) → list_any (nat_eq i) (named log ms) ≡ true → list_any (nat_eq i) (named_by o (named log ms)) ≡ true
    go None h = h
    go (Some v) h = right (i == v.identifier)
      where
        right : (b : Bool) → (b || list_any (nat_eq i) (named log ms)) ≡ true
        right true = refl
        right false = h

-- a SUBSCRIBE that is received under the identifier
request-of : (i : ℕ) (n : Note) → is_id i (subscribe_suback.cause n) ≡ true → (s : Subscription) × (received_subscription n ≡ Some s) × ((i == s.identifier) ≡ true)
request-of i n h = go (received_subscription n) refl (sym (subscribes_so.causes_are n i) ∙ h)
  where
    go : (o : Option Subscription) → received_subscription n ≡ o → names i (option_map subscription_count o) ≡ true → (s : Subscription) × (received_subscription n ≡ Some s) × ((i == s.identifier) ≡ true)
    go None p h = absurd (cc)
    go (Some s) p h = (s, p, h)

-- no SUBACK is sent under it
unanswered-by : (i : ℕ) (n : Note) → is_id i (subscribe_suback.answer n) ≡ false → codes_under i n ≡ None
unanswered-by i n h = go (sent_grant n) (sym (subscribes_so.answers_are n i) ∙ h)
  where
    go : (o : Option Grant) → names i (option_map grant_count o) ≡ false → option_map (λ a. a.codes) (option_and_then (λ a. only (a.identifier == i) (Some a)) o) ≡ None
    go None h = refl
    go (Some a) h =
        let other : (a.identifier == i) ≡ false = grind (arith, nat_tests) in
        ap (λ b. option_map (λ (a : Grant). a.codes) (only b (Some a))) other

-- one on the open connection after which no SUBACK under its identifier was sent waits
pub waits-here : (i : ℕ) (log : List Seen) → is_connected log ≡ true → (j : Moment) → Among j (connection log) → causes subscribe_suback i j ≡ true → ((m : Moment) → Among m (connection log) → position j < position m → answers subscribe_suback i m ≡ false)
    → (q : Subscription) × (received_subscription (note j) ≡ Some q) × ((i == q.identifier) ≡ true) × (waiting_from log j ≡ Some (asked q))
waits-here i log connected j there passes none_after = (r.0, r.1, r.2, waits)
  where
    on_it : (number j == begun log) ≡ true
    on_it = (those-among (λ m. number m == begun log) (moments log) j there).1

    same : number j ≡ begun log
    same = eqb-true (number j) (begun log) on_it

    r : (q : Subscription) × (received_subscription (note j) ≡ Some q) × ((i == q.identifier) ≡ true)
    r = request-of i (note j) passes

    later : (m : Moment) → Among m (those (λ m. is_after m j) (of_connection (number j) log)) → codes_under i (note m) ≡ None
    later m a =
        let parts = those-among (λ m. is_after m j) (of_connection (number j) log) m a in
        let inside : Among m (connection log) = subst (λ c. Among m (of_connection c log)) same parts.0 in
        let after : position j < position m = ltb-true (position j) (position m) parts.1 in
        unanswered-by i (note m) (none_after m inside after)

    no-codes : codes_in log j i ≡ None
    no-codes = none-first_found (codes_under i) (those (λ m. is_after m j) (of_connection (number j) log)) later

    waits : waiting_from log j ≡ Some (asked r.0)
    waits =
        ap (λ b. waiting_by b (codes_in log j) (received_subscription (note j))) (ap (λ b. b && (begun log == number j)) connected ∙ eq-eqb (begun log) (number j) (sym same))
        ∙ ap (waiting_by true (codes_in log j)) r.1
        ∙ ap (λ c. only (is_none {T = List ℕ} c) (Some (asked r.0))) (ap (codes_in log j) (sym (eqb-true i r.0.identifier r.2)) ∙ no-codes)

waits-connected : (i : ℕ) (log : List Seen) → is_connected log ≡ true → since (causes subscribe_suback i) (answers subscribe_suback i) (connection log) ≡ true → list_any (nat_eq i) (named log (connection log)) ≡ true
waits-connected i log connected h =
    let s : HoldsSince (causes subscribe_suback i) (answers subscribe_suback i) (connection log) =
    since-stands (causes subscribe_suback i) (answers subscribe_suback i) (connection log) (those-descend (λ m. number m == begun log) (moments log) (moments-descend log)) h in
    let w = waits-here i log connected s.at s.there s.passes s.none_after in
    named-there log i (connection log) s.at (asked w.0) s.there w.3 w.2

waits-unanswered : (i : ℕ) (log : List Seen) → since (causes subscribe_suback i) (answers subscribe_suback i) (on_open log) ≡ true → list_any (nat_eq i) (named log (connection log)) ≡ true
waits-unanswered i log h = go (is_connected log) refl h
  where
    go : (b : Bool) → is_connected log ≡ b → since (causes subscribe_suback i) (answers subscribe_suback i) (cond b (connection log) []) ≡ true → list_any (nat_eq i) (named log (connection log)) ≡ true
    go true connected h = waits-connected i log connected h
    go false closed h = absurd (cc)

pub unanswered-within : (log : List Seen) → unanswered_ids subscribe_suback log ≤ asked_filters log
unfolding unanswered_ids asked_filters
unanswered-within log =
    let listed = ids-listed (λ i. since (causes subscribe_suback i) (answers subscribe_suback i) (on_open log)) (named log (connection log)) (λ i h. waits-unanswered i log h) in
    let long = named-length log (connection log) in
    omega (arith, listed, long)

-- Filters that stand, with one event more.
use Rattle.std.proofs.Common.{◌≡◌, ℕ, ◌+◌, ◌≤◌, ◌==◌, ◌%◌, nat_le, nat_lt, arith, Bool, true, false, cond, ◌&&◌, ◌||◌, not, List, [], ◌∷◌, ◌++◌, length, Option, Some, None, refl, ap, sym, ◌∙◌, inl, inr}
use Rattle.std.specs.Prelude.{is_none, unwrap_or, option_map}
use Rattle.std.specs.Option.{option_or, option_and_then}
use Rattle.std.specs.List.{list_any, sum_by}
use Rattle.std.proofs.lemmas.Bool.{eq-eqb, le-leb}
use Rattle.std.proofs.lemmas.Bool.Decides.{nat_tests}
use Rattle.std.proofs.lemmas.List.Folds.{list_any-append}
use Rattle.mq_rules.specs.declared.role.Tested.{Tested}
use Rattle.mq_rules.specs.declared.fate.Fate.{Fate}
use Rattle.mq_rules.specs.declared.note.Note.{Note}
use Rattle.mq_rules.specs.declared.note.Note.TheVariants as notes
use Rattle.mq_rules.specs.declared.note.Seen.{Seen}
use Rattle.mq_rules.specs.declared.text.NotedFilter.{NotedFilter}
use Rattle.mq_rules.specs.Words.{is_some_and, only}
use Rattle.mq_rules.specs.Notes.{is_open, is_close, is_boundary, is_release, refuses, Subscription, Grant, received_subscription, sent_grant}
use Rattle.mq_rules.specs.Moments.{Moment, newest, note, moments, position, is_after, some, those, first_found, Among}
use Rattle.mq_rules.specs.Connections.{begun, number, is_connected, of_connection, on_open, latest_fate, accepts, begins, voided, any_accepted, has_session, with_first, session, needs_connection, IsOnConnection}
use Rattle.mq_rules.specs.Subscriptions.{Standing, granted, codes_under, standing_from, standing_of, asks_to_share, is_shared, topic_set, last_set}
use Rattle.mq_rules.proofs.Exports.{among-within, and_false, begun-least, begun-open, begun-same, has_item, none-first_found, on_open-fold, option_or-none, or_false, session-members, those-among}
use Rattle.mq_rules.specs.Under.{fate_before}
use Rattle.mq_filters.specs.Standings.{allows}
use Rattle.mq_subscriptions.specs.Standings.{Waits, asked, weighed, sum_next, is_on_open, codes_in, waits_by, standing_by, settled_by, waiting_by, settled_from, waiting_from, with_codes, goes_on, is_answered, grants_some, settled_next, waiting_next, sharing_next, topic_next, IsStanding, any_kept}
use Rattle.mq_fates.specs.Holding.{total}

-- ---- one SUBSCRIBE

-- the filters of a SUBSCRIBE with the Reason Codes of its SUBACK
codes-granted : (filters : List NotedFilter) (codes : List ℕ) → with_codes (granted filters []) codes ≡ granted filters codes
codes-granted [] codes = refl
codes-granted (f ∷ filters) [] = ap (λ ss. record { filter = f.filter; ceiling = f.options % 4 } ∷ ss) (codes-granted filters [])
codes-granted (f ∷ filters) (code ∷ codes) = go (refuses code) (codes-granted filters codes)
  where
    go : (b : Bool) → with_codes (granted filters []) codes ≡ granted filters codes
        → cond b [] (record { filter = f.filter; ceiling = code } ∷ []) ++ with_codes (granted filters []) codes ≡ cond b (granted filters codes) (record { filter = f.filter; ceiling = code } ∷ granted filters codes)
    go true h = h
    go false h = ap (λ ss. record { filter = f.filter; ceiling = code } ∷ ss) h

-- the Reason Codes under an identifier
codes_of : ℕ → Option Grant → Option (List ℕ)
codes_of i g = option_map (λ a. a.codes) (option_and_then (λ a. only (a.identifier == i) (Some a)) g)

grants-none : (t : Standing → Bool) (g : Option Grant) → grants_some t g (λ p. is_some_and p None) ≡ false
grants-none t None = refl
grants-none t (Some a) = refl

settled-step : (t : Standing → Bool) (here : Bool) (codes more : ℕ → Option (List ℕ)) (g : Option Grant) (o : Option Subscription) → ((i : ℕ) → more i ≡ option_or (codes i) (cond here (codes_of i g) None))
    → list_any t (settled_by here more o) ≡ (list_any t (settled_by here codes o) || grants_some t g (λ p. is_some_and p (waiting_by here codes o)))
unfolding codes_of
settled-step t true codes more g None h = sym (grants-none t g)
settled-step t false codes more g None h = sym (grants-none t g)
settled-step t here codes more g (Some s) h = ap (λ c. list_any t (cond (here && is_none c) [] (granted s.filters (unwrap_or c [])))) (h s.identifier) ∙ go here (codes s.identifier) g
  where
    beside : (b : Bool) (g : Option Grant) → b ≡ (b || grants_some t g (λ p. is_some_and p None))
    beside b g = sym (ap (λ x. b || x) (grants-none t g) ∙ or_false b)

    go : (here : Bool) (c : Option (List ℕ)) (g : Option Grant)
        → list_any t (cond (here && is_none (option_or c (cond here (codes_of s.identifier g) None))) [] (granted s.filters (unwrap_or (option_or c (cond here (codes_of s.identifier g) None)) [])))
        ≡ (list_any t (cond (here && is_none c) [] (granted s.filters (unwrap_or c []))) || grants_some t g (λ p. is_some_and p (only (here && is_none c) (Some (asked s)))))
    go true (Some cs) g = beside (list_any t (granted s.filters cs)) g
    go false (Some cs) g = beside (list_any t (granted s.filters cs)) g
    go false None g = beside (list_any t (granted s.filters [])) g
    go true None None = refl
    go true None (Some a) = at (a.identifier == s.identifier)
      where
        at : (b : Bool) → list_any t (cond (is_none (option_or None (option_map (λ (a : Grant). a.codes) (only b (Some a))))) [] (granted s.filters (unwrap_or (option_map (λ (a : Grant). a.codes) (only b (Some a))) [])))
            ≡ (b && list_any t (with_codes (granted s.filters []) a.codes))
        at true = ap (list_any t) (sym (codes-granted s.filters a.codes))
        at false = refl

waiting-step : (t : Waits → Bool) (here : Bool) (codes more : ℕ → Option (List ℕ)) (g : Option Grant) (o : Option Subscription) → ((i : ℕ) → more i ≡ option_or (codes i) (cond here (codes_of i g) None))
    → is_some_and t (waiting_by here more o) ≡ is_some_and (λ w. not (is_answered g w) && t w) (waiting_by here codes o)
unfolding codes_of
waiting-step t true codes more g None h = refl
waiting-step t false codes more g None h = refl
waiting-step t here codes more g (Some s) h = ap (λ c. is_some_and t (only (here && is_none c) (Some (asked s)))) (h s.identifier) ∙ go here (codes s.identifier) g
  where
    go : (here : Bool) (c : Option (List ℕ)) (g : Option Grant) → is_some_and t (only (here && is_none (option_or c (cond here (codes_of s.identifier g) None))) (Some (asked s)))
        ≡ is_some_and (λ w. not (is_answered g w) && t w) (only (here && is_none c) (Some (asked s)))
    go false c g = refl
    go true (Some cs) g = refl
    go true None None = refl
    go true None (Some a) = at (a.identifier == s.identifier)
      where
        at : (b : Bool) → is_some_and t (only (is_none (option_map (λ (a : Grant). a.codes) (only b (Some a)))) (Some (asked s))) ≡ (not b && t (asked s))
        at true = refl
        at false = refl

sum-step : (weigh : Waits → ℕ) (here : Bool) (codes more : ℕ → Option (List ℕ)) (g : Option Grant) (o : Option Subscription) → ((i : ℕ) → more i ≡ option_or (codes i) (cond here (codes_of i g) None))
    → weighed weigh (waiting_by here more o) ≡ weighed (λ w. cond (is_answered g w) 0 (weigh w)) (waiting_by here codes o)
unfolding codes_of
sum-step weigh true codes more g None h = refl
sum-step weigh false codes more g None h = refl
sum-step weigh here codes more g (Some s) h = ap (λ c. weighed weigh (only (here && is_none c) (Some (asked s)))) (h s.identifier) ∙ go here (codes s.identifier) g
  where
    go : (here : Bool) (c : Option (List ℕ)) (g : Option Grant) → weighed weigh (only (here && is_none (option_or c (cond here (codes_of s.identifier g) None))) (Some (asked s)))
        ≡ weighed (λ w. cond (is_answered g w) 0 (weigh w)) (only (here && is_none c) (Some (asked s)))
    go false c g = refl
    go true (Some cs) g = refl
    go true None None = refl
    go true None (Some a) = at (a.identifier == s.identifier)
      where
        at : (b : Bool) → weighed weigh (only (is_none (option_map (λ (a : Grant). a.codes) (only b (Some a)))) (Some (asked s))) ≡ cond b 0 (weigh (asked s))
        at true = refl
        at false = refl

-- a SUBSCRIBE waits no more once its connection isn't open
settled-over : (t : Standing → Bool) (here : Bool) (codes more : ℕ → Option (List ℕ)) (o : Option Subscription) → ((i : ℕ) → more i ≡ codes i)
    → list_any t (settled_by false more o) ≡ (list_any t (settled_by here codes o) || is_some_and (λ w. list_any t w.filters) (waiting_by here codes o))
settled-over t true codes more None h = refl
settled-over t false codes more None h = refl
settled-over t here codes more (Some s) h = ap (λ c. list_any t (granted s.filters (unwrap_or c []))) (h s.identifier) ∙ go here (codes s.identifier)
  where
    go : (here : Bool) (c : Option (List ℕ)) → list_any t (granted s.filters (unwrap_or c []))
        ≡ (list_any t (cond (here && is_none c) [] (granted s.filters (unwrap_or c []))) || is_some_and (λ w. list_any t w.filters) (only (here && is_none c) (Some (asked s))))
    go true None = refl
    go true (Some cs) = sym (or_false (list_any t (granted s.filters cs)))
    go false c = sym (or_false (list_any t (granted s.filters (unwrap_or c []))))

-- what stands is what is settled, and the filters of what waits
standing-parts : (t : Standing → Bool) (here : Bool) (codes : ℕ → Option (List ℕ)) (o : Option Subscription)
    → list_any t (standing_by codes o) ≡ (list_any t (settled_by here codes o) || is_some_and (λ w. list_any t w.filters) (waiting_by here codes o))
standing-parts t here codes None = settled-over t here codes codes None (λ i. refl)
standing-parts t here codes (Some s) = settled-over t here codes codes (Some s) (λ i. refl)

-- ---- Reason Codes with one event more

codes-next : (i : ℕ) (j : Moment) (e : Seen) (past : List Seen) → position j ≤ length past → codes_in (e ∷ past) j i ≡ option_or (codes_in past j i) (cond (begun (e ∷ past) == number j) (codes_under i e.note) None)
codes-next i j e past within = go (begun (e ∷ past) == number j)
  where
    rest : List Moment
    rest = of_connection (number j) past

    later : is_after (newest e past) j ≡ true
    later = let p : length j.past + 1 ≤ length past = within in grind (arith, nat_tests)

    go : (b : Bool) → first_found (codes_under i) (those (λ m. is_after m j) (cond b (newest e past ∷ rest) rest)) ≡ option_or (first_found (codes_under i) (those (λ m. is_after m j) rest)) (cond b (codes_under i e.note) None)
    go true = ap (λ b. first_found (codes_under i) (cond b (newest e past ∷ those (λ m. is_after m j) rest) (those (λ m. is_after m j) rest))) later
    go false = sym (option_or-none (first_found (codes_under i) (those (λ m. is_after m j) rest)))

-- a SUBSCRIBE has no SUBACK when it comes
codes-newest : (i : ℕ) (e : Seen) (past : List Seen) → codes_in (e ∷ past) (newest e past) i ≡ None
codes-newest i e past = none-first_found (codes_under i) (those (λ m. is_after m (newest e past)) (of_connection (number (newest e past)) (e ∷ past))) (λ m among. absurd (never m among))
  where
    never : (m : Moment) → Among m (those (λ m. is_after m (newest e past)) (of_connection (number (newest e past)) (e ∷ past))) → ⊥
    never m among =
        let parts = those-among (λ m. is_after m (newest e past)) (of_connection (number (newest e past)) (e ∷ past)) m among in
        let inside = those-among (λ m. number m == number (newest e past)) (moments (e ∷ past)) m parts.0 in
        let within : length m.past + 1 ≤ length past + 1 = (let le = among-within m (e ∷ past) inside.0 in omega arith) in
        let after : nat_lt (length past + 1) (length m.past + 1) ≡ true = parts.1 in
        grind (arith, nat_tests)

-- ---- moments of a session

among-number : (m : Moment) (log : List Seen) → Among m (moments log) → number m ≤ begun log
among-number m [] h = absurd h
among-number m (e ∷ past) (inl is) = let same : number m ≡ begun (e ∷ past) = ap number is in omega arith
among-number m (e ∷ past) (inr h) = let le = among-number m past h in let least = begun-least e past in omega arith

pub some-alike : (p q : Moment → Bool) (ms : List Moment) → ((j : Moment) → Among j ms → p j ≡ q j) → some p ms ≡ some q ms
some-alike p q [] h = refl
some-alike p q (m ∷ ms) h = ap (λ b. b || some p ms) (h m (inl refl)) ∙ ap (λ b. q m || b) (some-alike p q ms (λ j a. h j (inr a)))

pub some-either : (p q : Moment → Bool) (ms : List Moment) → some (λ j. p j || q j) ms ≡ (some p ms || some q ms)
some-either p q [] = refl
some-either p q (m ∷ ms) = ap (λ b. (p m || q m) || b) (some-either p q ms) ∙ go (p m) (q m) (some p ms)
  where
    go : (a b c : Bool) → ((a || b) || (c || some q ms)) ≡ ((a || c) || (b || some q ms))
    go true b c = refl
    go false true true = refl
    go false true false = refl
    go false false c = refl

pub some-none : (ms : List Moment) → some (λ j. false) ms ≡ false
some-none [] = refl
some-none (m ∷ ms) = some-none ms

some-grants : (t : Standing → Bool) (g : Option Grant) (w : Moment → Option Waits) (ms : List Moment)
    → some (λ j. grants_some t g (λ p. is_some_and p (w j))) ms ≡ grants_some t g (λ p. some (λ j. is_some_and p (w j)) ms)
some-grants t None w ms = some-none ms
some-grants t (Some a) w ms = refl

pub total-alike : (p q : Moment → ℕ) (ms : List Moment) → ((j : Moment) → Among j ms → p j ≡ q j) → total p ms ≡ total q ms
total-alike p q [] h = refl
total-alike p q (m ∷ ms) h = let first = h m (inl refl) in let rest = total-alike p q ms (λ j a. h j (inr a)) in omega (arith, first, rest)

total-none : (ms : List Moment) → total (λ j. 0) ms ≡ 0
total-none [] = refl
total-none (m ∷ ms) = let rest = total-none ms in omega (arith, rest)

-- a number that no RELEASE has, over the session with one event more
pub session-total : (tested : Tested) (f : Fate) (p : Moment → ℕ) (e : Seen) (past : List Seen) → (is_release e.note ≡ true → p (newest e past) ≡ 0)
    → total p (session tested.role (Some f) (e ∷ past)) ≡ cond (accepts f) (p (newest e past)) 0 + cond (goes_on f e.note) (total p (session tested.role (fate_before tested f e past) past)) 0
session-total tested f p e past idle =
    first (has_session tested.role (Some f) e past) (is_open e.note) (begins (Some f))
    ∙ ap (λ n. n + cond (goes_on f e.note) (total p (session tested.role (fate_before tested f e past) past)) 0) (inside (accepts f) (is_release e.note) (voided (Some f) && any_accepted tested.role (Some f) past) idle)
  where
    inside : (a r v : Bool) → (r ≡ true → p (newest e past) ≡ 0) → cond (a || (r && v)) (p (newest e past)) 0 ≡ cond a (p (newest e past)) 0
    inside true r v h = refl
    inside false false v h = refl
    inside false true true h = h refl
    inside false true false h = refl

    first : (b o n : Bool) → total p (with_first b (newest e past) (cond o (cond n [] (session tested.role (latest_fate tested.role past) past)) (session tested.role (Some f) past)))
        ≡ cond b (p (newest e past)) 0 + cond (not (o && n)) (total p (session tested.role (cond o (latest_fate tested.role past) (Some f)) past)) 0
    first true true true = refl
    first true true false = refl
    first true false n = refl
    first false true true = refl
    first false true false = omega arith
    first false false n = omega arith

-- a test that no RELEASE passes, over the session with one event more
pub session-some : (tested : Tested) (f : Fate) (p : Moment → Bool) (e : Seen) (past : List Seen) → (is_release e.note ≡ true → p (newest e past) ≡ false)
    → some p (session tested.role (Some f) (e ∷ past)) ≡ ((accepts f && p (newest e past)) || (goes_on f e.note && some p (session tested.role (fate_before tested f e past) past)))
session-some tested f p e past idle =
    first (has_session tested.role (Some f) e past) (is_open e.note) (begins (Some f))
    ∙ ap (λ b. b || (goes_on f e.note && some p (session tested.role (fate_before tested f e past) past))) (inside (accepts f) (is_release e.note) (voided (Some f) && any_accepted tested.role (Some f) past) idle)
  where
    inside : (a r v : Bool) → (r ≡ true → p (newest e past) ≡ false) → ((a || (r && v)) && p (newest e past)) ≡ (a && p (newest e past))
    inside true r v h = refl
    inside false false v h = refl
    inside false true v h = ap (λ t. v && t) (h refl) ∙ and_false v

    first : (b o n : Bool) → some p (with_first b (newest e past) (cond o (cond n [] (session tested.role (latest_fate tested.role past) past)) (session tested.role (Some f) past)))
        ≡ ((b && p (newest e past)) || (not (o && n) && some p (session tested.role (cond o (latest_fate tested.role past) (Some f)) past)))
    first true true true = refl
    first true true false = refl
    first true false n = refl
    first false true true = refl
    first false true false = refl
    first false false n = refl

-- a RELEASE, an OPEN and a CLOSE are no SUBSCRIBE, and an OPEN and a CLOSE no SUBACK
pub unsubscribed : (n : Note) → is_release n ≡ true → received_subscription n ≡ None
unsubscribed (notes.Recv item) h = absurd (cc)
unsubscribed _ h = refl

pub boundary-none : (n : Note) → is_boundary n ≡ true → (received_subscription n ≡ None) × (sent_grant n ≡ None)
boundary-none notes.Open h = (refl, refl)
boundary-none (notes.Close cuts part) h = (refl, refl)
boundary-none _ h = absurd (cc)

-- ---- the connection that is open

pub boundary-parts : (n : Note) → is_boundary n ≡ false → (is_open n ≡ false) × (is_close n ≡ false)
boundary-parts n h = go (is_open n) (is_close n) h
  where
    go : (o c : Bool) → (o || c) ≡ false → (o ≡ false) × (c ≡ false)
    go true c h = absurd (cc)
    go false c h = (refl, h)

-- where no connection begins or ends, it is the same
connected-same : (e : Seen) (past : List Seen) → is_boundary e.note ≡ false → is_connected (e ∷ past) ≡ is_connected past
connected-same e past h =
    let p = boundary-parts e.note h in
    ap (λ b. b || (not (is_close e.note) && is_connected past)) p.0 ∙ ap (λ b. not b && is_connected past) p.1

-- a SUBSCRIBE is received, and a SUBACK sent, on it
subscription-needs : (n : Note) (s : Subscription) → received_subscription n ≡ Some s → (needs_connection n ≡ true) × (is_boundary n ≡ false)
subscription-needs (notes.Recv item) s h = (refl, refl)
subscription-needs _ s h = absurd (cc)

grant-needs : (n : Note) → needs_connection n ≡ false → sent_grant n ≡ None
grant-needs (notes.Sent item) h = absurd (cc)
grant-needs _ h = refl

-- ---- what is kept, with one event more

module _ (tested : Tested) (f : Fate) (e : Seen) (past : List Seen) (on : IsOnConnection e past) where
  abbrev before : List Moment
  before = session tested.role (fate_before tested f e past) past

  -- the newest event settles nothing, and waits if it is a SUBSCRIBE
  newest-waits : waits_by (is_on_open (e ∷ past) (newest e past)) (codes_in (e ∷ past) (newest e past)) (received_subscription e.note) ≡ is_some_and (λ s. true) (received_subscription e.note)
  newest-waits = go (received_subscription e.note) refl
    where
      go : (o : Option Subscription) → received_subscription e.note ≡ o → waits_by (is_on_open (e ∷ past) (newest e past)) (codes_in (e ∷ past) (newest e past)) o ≡ is_some_and (λ s. true) o
      go None h = and_false (is_on_open (e ∷ past) (newest e past))
      go (Some s) h =
          let needs = subscription-needs e.note s h in
          ap (λ b. (b && (begun (e ∷ past) == number (newest e past))) && is_none (codes_in (e ∷ past) (newest e past) s.identifier)) (connected-same e past needs.1 ∙ on needs.0)
          ∙ ap (λ b. b && is_none (codes_in (e ∷ past) (newest e past) s.identifier)) (eq-eqb (begun (e ∷ past)) (number (newest e past)) refl)
          ∙ ap is_none (codes-newest s.identifier e past)

  newest-settled : (t : Standing → Bool) → list_any t (settled_from (e ∷ past) (newest e past)) ≡ false
  newest-settled t = ap (λ b. list_any t (cond b [] (standing_by (codes_in (e ∷ past) (newest e past)) (received_subscription e.note)))) newest-waits ∙ go (received_subscription e.note)
    where
      go : (o : Option Subscription) → list_any t (cond (is_some_and (λ s. true) o) [] (standing_by (codes_in (e ∷ past) (newest e past)) o)) ≡ false
      go None = refl
      go (Some s) = refl

  newest-waiting : (t : Waits → Bool) → is_some_and t (waiting_from (e ∷ past) (newest e past)) ≡ is_some_and t (option_map asked (received_subscription e.note))
  newest-waiting t = ap (λ b. is_some_and t (only b (option_map asked (received_subscription e.note)))) newest-waits ∙ go (received_subscription e.note)
    where
      go : (o : Option Subscription) → is_some_and t (only (is_some_and (λ s. true) o) (option_map asked o)) ≡ is_some_and t (option_map asked o)
      go None = refl
      go (Some s) = refl

  newest-weighed : (weigh : Waits → ℕ) → weighed weigh (waiting_from (e ∷ past) (newest e past)) ≡ weighed weigh (option_map asked (received_subscription e.note))
  newest-weighed weigh = ap (λ b. weighed weigh (only b (option_map asked (received_subscription e.note)))) newest-waits ∙ go (received_subscription e.note)
    where
      go : (o : Option Subscription) → weighed weigh (only (is_some_and (λ s. true) o) (option_map asked o)) ≡ weighed weigh (option_map asked o)
      go None = refl
      go (Some s) = refl

  inside : (j : Moment) → Among j before → (position j ≤ length past) × (number j ≤ begun past)
  inside j a =
      let m = session-members tested.role (fate_before tested f e past) past j a in
      (among-within j past m.0, among-number j past m.0)

  -- where no connection begins or ends, the same moments are on the one that is open, and a SUBACK comes for these
  here-same : is_boundary e.note ≡ false → (j : Moment) → is_on_open (e ∷ past) j ≡ is_on_open past j
  here-same inner j =
      ap (λ b. b && (begun (e ∷ past) == number j)) (connected-same e past inner)
      ∙ ap (λ n. is_connected past && (n == number j)) (begun-same e past (boundary-parts e.note inner).0)

  codes-same : is_boundary e.note ≡ false → (j : Moment) → Among j before → (i : ℕ) → codes_in (e ∷ past) j i ≡ option_or (codes_in past j i) (cond (is_on_open past j) (codes_under i e.note) None)
  unfolding codes_of
  codes-same inner j a i =
      codes-next i j e past (inside j a).0
      ∙ ap (λ n. option_or (codes_in past j i) (cond (n == number j) (codes_under i e.note) None)) (begun-same e past (boundary-parts e.note inner).0)
      ∙ ap (option_or (codes_in past j i)) (go (is_connected past) refl (begun past == number j))
    where
      unanswered : needs_connection e.note ≡ false → (b : Bool) → cond b (codes_under i e.note) None ≡ None
      unanswered h true = ap (codes_of i) (grant-needs e.note h)
      unanswered h false = refl

      needless : (needs : Bool) → (needs ≡ true → is_connected past ≡ true) → is_connected past ≡ false → needs ≡ false
      needless false on h = refl
      needless true on h = absurd (let there : is_connected past ≡ true = on refl in cc)

      go : (k : Bool) → is_connected past ≡ k → (b : Bool) → cond b (codes_under i e.note) None ≡ cond (k && b) (codes_under i e.note) None
      go true h b = refl
      go false h b = unanswered (needless (needs_connection e.note) on h) b

  -- where one begins or ends, none of the earlier moments is on the one that is open, and no SUBACK comes
  not-begun : is_open e.note ≡ true → (j : Moment) → Among j before → (begun (e ∷ past) == number j) ≡ false
  not-begun opens j a = let le = (inside j a).1 in let more = begun-open e past opens in grind (arith, nat_tests)

  not-here : is_boundary e.note ≡ true → (j : Moment) → Among j before → is_on_open (e ∷ past) j ≡ false
  not-here outer j a = go (is_open e.note) refl (is_close e.note) refl outer
    where
      go : (o : Bool) → is_open e.note ≡ o → (c : Bool) → is_close e.note ≡ c → (o || c) ≡ true → is_on_open (e ∷ past) j ≡ false
      go true opens c closes h = ap (λ b. is_connected (e ∷ past) && b) (not-begun opens j a) ∙ and_false (is_connected (e ∷ past))
      go false opens true closes h =
          ap (λ b. (b || (not (is_close e.note) && is_connected past)) && (begun (e ∷ past) == number j)) opens
          ∙ ap (λ b. (not b && is_connected past) && (begun (e ∷ past) == number j)) closes
      go false opens false closes h = absurd (cc)

  codes-kept : is_boundary e.note ≡ true → (j : Moment) → Among j before → (i : ℕ) → codes_in (e ∷ past) j i ≡ codes_in past j i
  unfolding codes_of
  codes-kept outer j a i =
      codes-next i j e past (inside j a).0 ∙ ap (λ o. option_or (codes_in past j i) (cond (begun (e ∷ past) == number j) o None)) (ap (codes_of i) (boundary-none e.note outer).1)
      ∙ ap (option_or (codes_in past j i)) (none (begun (e ∷ past) == number j)) ∙ option_or-none (codes_in past j i)
    where
      none : (b : Bool) → cond {A = Option (List ℕ)} b None None ≡ None
      none true = refl
      none false = refl

  settled-is : (t : Standing → Bool) → some (λ j. list_any t (settled_from (e ∷ past) j)) (session tested.role (Some f) (e ∷ past))
      ≡ settled_next f e.note t (some (λ j. list_any t (settled_from past j)) before) (λ p. some (λ j. is_some_and p (waiting_from past j)) before)
  unfolding codes_of
  settled-is t =
      session-some tested f (λ j. list_any t (settled_from (e ∷ past) j)) e past (λ r. newest-settled t)
      ∙ ap (λ b. (accepts f && b) || (goes_on f e.note && some (λ j. list_any t (settled_from (e ∷ past) j)) before)) (newest-settled t)
      ∙ ap (λ b. b || (goes_on f e.note && some (λ j. list_any t (settled_from (e ∷ past) j)) before)) (and_false (accepts f))
      ∙ go (is_boundary e.note) refl
    where
      old : Bool
      old = some (λ j. list_any t (settled_from past j)) before

      among : (Waits → Bool) → Bool
      among p = some (λ j. is_some_and p (waiting_from past j)) before

      outside : is_boundary e.note ≡ true → some (λ j. list_any t (settled_from (e ∷ past) j)) before ≡ (old || among (λ w. list_any t w.filters))
      outside h =
          some-alike (λ j. list_any t (settled_from (e ∷ past) j)) (λ j. list_any t (settled_from past j) || is_some_and (λ w. list_any t w.filters) (waiting_from past j)) before (λ j a.
          ap (λ b. list_any t (settled_by b (codes_in (e ∷ past) j) (received_subscription (note j)))) (not-here h j a)
          ∙ settled-over t (is_on_open past j) (codes_in past j) (codes_in (e ∷ past) j) (received_subscription (note j)) (λ i. codes-kept h j a i))
          ∙ some-either (λ j. list_any t (settled_from past j)) (λ j. is_some_and (λ w. list_any t w.filters) (waiting_from past j)) before

      within : is_boundary e.note ≡ false → some (λ j. list_any t (settled_from (e ∷ past) j)) before ≡ (old || grants_some t (sent_grant e.note) among)
      within h =
          some-alike (λ j. list_any t (settled_from (e ∷ past) j)) (λ j. list_any t (settled_from past j) || grants_some t (sent_grant e.note) (λ p. is_some_and p (waiting_from past j))) before (λ j a.
          ap (λ b. list_any t (settled_by b (codes_in (e ∷ past) j) (received_subscription (note j)))) (here-same h j)
          ∙ settled-step t (is_on_open past j) (codes_in past j) (codes_in (e ∷ past) j) (sent_grant e.note) (received_subscription (note j)) (λ i. codes-same h j a i))
          ∙ some-either (λ j. list_any t (settled_from past j)) (λ j. grants_some t (sent_grant e.note) (λ p. is_some_and p (waiting_from past j))) before
          ∙ ap (λ b. old || b) (some-grants t (sent_grant e.note) (waiting_from past) before)

      go : (b : Bool) → is_boundary e.note ≡ b → (goes_on f e.note && some (λ j. list_any t (settled_from (e ∷ past) j)) before)
          ≡ cond b (goes_on f e.note && (old || among (λ w. list_any t w.filters))) (old || grants_some t (sent_grant e.note) among)
      go true h = ap (λ b. goes_on f e.note && b) (outside h)
      go false h = ap (λ b. not (b && begins (Some f)) && some (λ j. list_any t (settled_from (e ∷ past) j)) before) (boundary-parts e.note h).0 ∙ within h

  waiting-is : (t : Waits → Bool) → some (λ j. is_some_and t (waiting_from (e ∷ past) j)) (session tested.role (Some f) (e ∷ past))
      ≡ waiting_next f e.note t (λ p. some (λ j. is_some_and p (waiting_from past j)) before)
  unfolding codes_of
  waiting-is t =
      session-some tested f (λ j. is_some_and t (waiting_from (e ∷ past) j)) e past (λ r. newest-waiting t ∙ ap (λ o. is_some_and t (option_map asked o)) (unsubscribed e.note r))
      ∙ ap (λ b. (accepts f && b) || (goes_on f e.note && some (λ j. is_some_and t (waiting_from (e ∷ past) j)) before)) (newest-waiting t)
      ∙ go (is_boundary e.note) refl
    where
      none : is_boundary e.note ≡ true → some (λ j. is_some_and t (waiting_from (e ∷ past) j)) before ≡ false
      none h = some-alike (λ j. is_some_and t (waiting_from (e ∷ past) j)) (λ j. false) before (λ j a. ap (λ b. is_some_and t (waiting_by b (codes_in (e ∷ past) j) (received_subscription (note j)))) (not-here h j a)) ∙ some-none before

      within : is_boundary e.note ≡ false → some (λ j. is_some_and t (waiting_from (e ∷ past) j)) before ≡ some (λ j. is_some_and (λ w. not (is_answered (sent_grant e.note) w) && t w) (waiting_from past j)) before
      within h =
          some-alike (λ j. is_some_and t (waiting_from (e ∷ past) j)) (λ j. is_some_and (λ w. not (is_answered (sent_grant e.note) w) && t w) (waiting_from past j)) before (λ j a.
          ap (λ b. is_some_and t (waiting_by b (codes_in (e ∷ past) j) (received_subscription (note j)))) (here-same h j)
          ∙ waiting-step t (is_on_open past j) (codes_in past j) (codes_in (e ∷ past) j) (sent_grant e.note) (received_subscription (note j)) (λ i. codes-same h j a i))

      go : (b : Bool) → is_boundary e.note ≡ b → ((accepts f && is_some_and t (option_map asked (received_subscription e.note))) || (goes_on f e.note && some (λ j. is_some_and t (waiting_from (e ∷ past) j)) before))
          ≡ cond b false ((accepts f && is_some_and t (option_map asked (received_subscription e.note))) || some (λ j. is_some_and (λ w. not (is_answered (sent_grant e.note) w) && t w) (waiting_from past j)) before)
      go true h =
          ap (λ o. (accepts f && is_some_and t (option_map asked o)) || (goes_on f e.note && some (λ j. is_some_and t (waiting_from (e ∷ past) j)) before)) (boundary-none e.note h).0
          ∙ ap (λ b. (accepts f && false) || (goes_on f e.note && b)) (none h) ∙ ap (λ b. b || (goes_on f e.note && false)) (and_false (accepts f)) ∙ and_false (goes_on f e.note)
      go false h =
          ap (λ b. (accepts f && is_some_and t (option_map asked (received_subscription e.note))) || (not (b && begins (Some f)) && some (λ j. is_some_and t (waiting_from (e ∷ past) j)) before)) (boundary-parts e.note h).0
          ∙ ap (λ b. (accepts f && is_some_and t (option_map asked (received_subscription e.note))) || b) (within h)

  sum-is : (weigh : Waits → ℕ) → total (λ j. weighed weigh (waiting_from (e ∷ past) j)) (session tested.role (Some f) (e ∷ past))
      ≡ sum_next f e.note weigh (λ g. total (λ j. weighed g (waiting_from past j)) before)
  unfolding codes_of
  sum-is weigh =
      session-total tested f (λ j. weighed weigh (waiting_from (e ∷ past) j)) e past (λ r. newest-weighed weigh ∙ ap (λ o. weighed weigh (option_map asked o)) (unsubscribed e.note r))
      ∙ ap (λ n. cond (accepts f) n 0 + cond (goes_on f e.note) (total (λ j. weighed weigh (waiting_from (e ∷ past) j)) before) 0) (newest-weighed weigh)
      ∙ go (is_boundary e.note) refl
    where
      none : is_boundary e.note ≡ true → total (λ j. weighed weigh (waiting_from (e ∷ past) j)) before ≡ 0
      none h = total-alike (λ j. weighed weigh (waiting_from (e ∷ past) j)) (λ j. 0) before (λ j a. ap (λ b. weighed weigh (waiting_by b (codes_in (e ∷ past) j) (received_subscription (note j)))) (not-here h j a)) ∙ total-none before

      within : is_boundary e.note ≡ false → total (λ j. weighed weigh (waiting_from (e ∷ past) j)) before ≡ total (λ j. weighed (λ w. cond (is_answered (sent_grant e.note) w) 0 (weigh w)) (waiting_from past j)) before
      within h =
          total-alike (λ j. weighed weigh (waiting_from (e ∷ past) j)) (λ j. weighed (λ w. cond (is_answered (sent_grant e.note) w) 0 (weigh w)) (waiting_from past j)) before (λ j a.
          ap (λ b. weighed weigh (waiting_by b (codes_in (e ∷ past) j) (received_subscription (note j)))) (here-same h j)
          ∙ sum-step weigh (is_on_open past j) (codes_in past j) (codes_in (e ∷ past) j) (sent_grant e.note) (received_subscription (note j)) (λ i. codes-same h j a i))

      empty : (a b : Bool) → cond a 0 0 + cond b 0 0 ≡ 0
      empty true true = refl
      empty true false = refl
      empty false true = refl
      empty false false = refl

      go : (b : Bool) → is_boundary e.note ≡ b → cond (accepts f) (weighed weigh (option_map asked (received_subscription e.note))) 0 + cond (goes_on f e.note) (total (λ j. weighed weigh (waiting_from (e ∷ past) j)) before) 0
          ≡ cond b 0 (cond (accepts f) (weighed weigh (option_map asked (received_subscription e.note))) 0 + total (λ j. weighed (λ w. cond (is_answered (sent_grant e.note) w) 0 (weigh w)) (waiting_from past j)) before)
      go true h =
          ap (λ o. cond (accepts f) (weighed weigh (option_map asked o)) 0 + cond (goes_on f e.note) (total (λ j. weighed weigh (waiting_from (e ∷ past) j)) before) 0) (boundary-none e.note h).0
          ∙ ap (λ n. cond (accepts f) 0 0 + cond (goes_on f e.note) n 0) (none h) ∙ empty (accepts f) (goes_on f e.note)
      go false h =
          ap (λ b. cond (accepts f) (weighed weigh (option_map asked (received_subscription e.note))) 0 + cond (not (b && begins (Some f))) (total (λ j. weighed weigh (waiting_from (e ∷ past) j)) before) 0) (boundary-parts e.note h).0
          ∙ ap (λ n. cond (accepts f) (weighed weigh (option_map asked (received_subscription e.note))) 0 + n) (within h)

  pub sharing-is : some asks_to_share (session tested.role (Some f) (e ∷ past)) ≡ sharing_next f e.note (some asks_to_share before)
  sharing-is = session-some tested f asks_to_share e past (λ r. ap (is_some_and (λ s. list_any is_shared s.filters)) (unsubscribed e.note r))

-- what is neither sent nor received sets no topic
unset : (alias : ℕ) (n : Note) → has_item n ≡ false → option_or (topic_set alias n) None ≡ None
unset alias (notes.Sent item) h = absurd (cc)
unset alias (notes.Recv item) h = absurd (cc)
unset alias _ h = refl

-- the topic that was last set
pub topic-is : (alias : ℕ) (e : Seen) (past : List Seen) → IsOnConnection e past → last_set alias (on_open (e ∷ past)) ≡ topic_next e.note alias (last_set alias (on_open past))
topic-is alias e past on = on_open-fold (last_set alias) (option_or (topic_set alias e.note)) e past (λ ms. refl) (unset alias e.note) on

-- what waits, by two tests that are alike
same-settled : (f : Fate) (n : Note) (t : Standing → Bool) (a b : Bool) (p q : (Waits → Bool) → Bool) → a ≡ b → ((u : Waits → Bool) → p u ≡ q u) → settled_next f n t a p ≡ settled_next f n t b q
same-settled f n t a b p q h same = ap (λ x. settled_next f n t x p) h ∙ ap (λ x. cond (is_boundary n) (goes_on f n && (b || x)) (b || grants_some t (sent_grant n) p)) (same (λ w. list_any t w.filters))
    ∙ ap (λ x. cond (is_boundary n) (goes_on f n && (b || q (λ w. list_any t w.filters))) (b || x)) (go (sent_grant n))
  where
    go : (g : Option Grant) → grants_some t g p ≡ grants_some t g q
    go None = refl
    go (Some a) = same (λ w. (a.identifier == w.identifier) && list_any t (with_codes w.filters a.codes))

-- the sum over what waits, by two sums that are alike
same-sum : (f : Fate) (n : Note) (weigh : Waits → ℕ) (p q : (Waits → ℕ) → ℕ) → ((g : Waits → ℕ) → p g ≡ q g) → sum_next f n weigh p ≡ sum_next f n weigh q
same-sum f n weigh p q same = ap (λ x. cond (is_boundary n) 0 (cond (accepts f) (weighed weigh (option_map asked (received_subscription n))) 0 + x)) (same (λ w. cond (is_answered (sent_grant n) w) 0 (weigh w)))

pub standing-next : (tested : Tested) (fate f : Fate) (settled more : List Standing) (waiting left : List Waits) (sharing shares : Bool) (topics known : ℕ → Option (List ℕ)) (e : Seen) (past : List Seen)
    → IsOnConnection e past → IsStanding fate settled waiting sharing topics tested (fate_before tested f e past) past
    → ((among : List ℕ → Bool) (qos : ℕ) → list_any (allows among qos) more ≡ settled_next f e.note (allows among qos) (list_any (allows among qos) settled) (λ p. list_any p waiting))
    → ((t : Waits → Bool) → list_any t left ≡ waiting_next f e.note t (λ p. list_any p waiting))
    → ((weigh : Waits → ℕ) → sum_by weigh left ≡ sum_next f e.note weigh (λ g. sum_by g waiting))
    → shares ≡ sharing_next f e.note sharing → ((alias : ℕ) → known alias ≡ topic_next e.note alias (topics alias))
    → IsStanding f more left shares known tested (Some f) (e ∷ past)
standing-next tested fate f settled more waiting left sharing shares topics known e past on s a b u c d = record {
  same_fate = refl;
  settled_are = λ among qos.
      a among qos
      ∙ same-settled f e.note (allows among qos) (list_any (allows among qos) settled) (some (λ j. list_any (allows among qos) (settled_from past j)) ms) (λ p. list_any p waiting) (λ p. some (λ j. is_some_and p (waiting_from past j)) ms) (s.settled_are among qos) s.waiting_are
      ∙ sym (settled-is tested f e past on (allows among qos));
  waiting_sums = λ weigh.
      u weigh ∙ same-sum f e.note weigh (λ g. sum_by g waiting) (λ g. total (λ j. weighed g (waiting_from past j)) ms) s.waiting_sums ∙ sym (sum-is tested f e past on weigh);
  waiting_are = λ t. b t ∙ ap (λ x. cond (is_boundary e.note) false ((accepts f && is_some_and t (option_map asked (received_subscription e.note))) || x)) (s.waiting_are (λ w. not (is_answered (sent_grant e.note) w) && t w)) ∙ sym (waiting-is tested f e past on t);
  is_sharing = c ∙ ap (sharing_next f e.note) s.is_sharing ∙ sym (sharing-is tested f e past on);
  topics_are = λ alias. d alias ∙ ap (topic_next e.note alias) (s.topics_are alias) ∙ sym (topic-is alias e past on);
}
  where
    ms : List Moment
    ms = session tested.role (fate_before tested f e past) past

-- ---- what stands

standing-some : (t : Standing → Bool) (k : Moment) (ms : List Moment) → list_any t (standing_of k ms) ≡ some (λ j. list_any t (standing_from k j)) ms
standing-some t k [] = refl
standing-some t k (j ∷ js) = list_any-append t (standing_from k j) (standing_of k js) ∙ ap (λ b. list_any t (standing_from k j) || b) (standing-some t k js)

standing-parts-kept : (tested : Tested) (fate : Fate) (settled : List Standing) (waiting : List Waits) (sharing : Bool) (topics : ℕ → Option (List ℕ)) (taken : Option Fate) (e : Seen) (past : List Seen) (t : Standing → Bool)
    → IsStanding fate settled waiting sharing topics tested taken past → list_any t settled ≡ some (λ j. list_any t (settled_from past j)) (session tested.role taken past)
    → list_any t (standing_of (newest e past) (session tested.role taken past)) ≡ any_kept t settled waiting
standing-parts-kept tested fate settled waiting sharing topics taken e past t s are =
    standing-some t (newest e past) (session tested.role taken past)
    ∙ some-alike (λ j. list_any t (standing_from (newest e past) j)) (λ j. list_any t (settled_from past j) || is_some_and (λ w. list_any t w.filters) (waiting_from past j)) (session tested.role taken past)
    (λ j a. standing-parts t (is_on_open past j) (codes_in past j) (received_subscription (note j)))
    ∙ some-either (λ j. list_any t (settled_from past j)) (λ j. is_some_and (λ w. list_any t w.filters) (waiting_from past j)) (session tested.role taken past)
    ∙ ap (λ b. b || some (λ j. is_some_and (λ w. list_any t w.filters) (waiting_from past j)) (session tested.role taken past)) (sym are)
    ∙ ap (λ b. list_any t settled || b) (sym (s.waiting_are (λ w. list_any t w.filters)))

-- a filter that passes a test, and allows this QoS
pub standing-kept : (tested : Tested) (fate : Fate) (settled : List Standing) (waiting : List Waits) (sharing : Bool) (topics : ℕ → Option (List ℕ)) (taken : Option Fate) (e : Seen) (past : List Seen) (among : List ℕ → Bool) (qos : ℕ)
    → IsStanding fate settled waiting sharing topics tested taken past → list_any (allows among qos) (standing_of (newest e past) (session tested.role taken past)) ≡ any_kept (allows among qos) settled waiting
standing-kept tested fate settled waiting sharing topics taken e past among qos s = standing-parts-kept tested fate settled waiting sharing topics taken e past (allows among qos) s (s.settled_are among qos)

-- each filter allows QoS 0
any_qos : (among : List ℕ → Bool) (s : Standing) → allows among 0 s ≡ among s.filter
any_qos among s = let least : nat_le 0 s.ceiling ≡ true = le-leb 0 s.ceiling (omega arith) in ap (λ b. among s.filter && b) least ∙ whole (among s.filter)
  where
    whole : (b : Bool) → (b && true) ≡ b
    whole true = refl
    whole false = refl

pub standing-named : (tested : Tested) (fate : Fate) (settled : List Standing) (waiting : List Waits) (sharing : Bool) (topics : ℕ → Option (List ℕ)) (taken : Option Fate) (e : Seen) (past : List Seen) (among : List ℕ → Bool)
    → IsStanding fate settled waiting sharing topics tested taken past → list_any (λ s. among s.filter) (standing_of (newest e past) (session tested.role taken past)) ≡ any_kept (λ s. among s.filter) settled waiting
standing-named tested fate settled waiting sharing topics taken e past among s =
    (λ i. list_any (λ x. sym (any_qos among x) i) (standing_of (newest e past) (session tested.role taken past)))
    ∙ standing-kept tested fate settled waiting sharing topics taken e past among 0 s
    ∙ (λ i. any_kept (λ x. any_qos among x i) settled waiting)

-- a filter is settled if it stands
pub settled-named : (tested : Tested) (fate : Fate) (settled : List Standing) (waiting : List Waits) (sharing : Bool) (topics : ℕ → Option (List ℕ)) (taken : Option Fate) (past : List Seen) (among : List ℕ → Bool)
    → IsStanding fate settled waiting sharing topics tested taken past → list_any (λ s. among s.filter) settled ≡ some (λ j. list_any (λ s. among s.filter) (settled_from past j)) (session tested.role taken past)
settled-named tested fate settled waiting sharing topics taken past among s =
    (λ i. list_any (λ x. sym (any_qos among x) i) settled) ∙ s.settled_are among 0 ∙ (λ i. some (λ j. list_any (λ x. any_qos among x i) (settled_from past j)) (session tested.role taken past))

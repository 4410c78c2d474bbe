-- The Topic Filters that stand, with one event more.
use Rattle.std.proofs.Common.{◌≡◌, ℕ, ◌+◌, ◌-◌, ◌<◌, ◌≤◌, ◌==◌, nat_lt, arith, Bool, true, false, cond, ◌&&◌, ◌||◌, List, [], ◌∷◌, ◌++◌, length, append-nil, Option, Some, None, refl, ap, sym, ◌∙◌, inl, inr}
use Rattle.std.specs.Prelude.{is_none, is_some, unwrap_or, option_map}
use Rattle.std.specs.Option.{option_or, option_and_then}
use Rattle.std.specs.List.{cons_option, list_any, IsDistinct, AllByRecursion}
use Rattle.std.specs.Map.{keys_of, lookup}
use Rattle.std.specs.Set.{unique_keys, distinct_count}
use Rattle.std.specs.Str.{bytes_eq}
use Rattle.std.specs.String.{string_bytes, string_eq}
use Rattle.std.specs.declared.string.String.{String}
use Rattle.std.proofs.lemmas.Bool.{eq-eqb, ne_eqb, eqb-true, lt-ltb}
use Rattle.std.proofs.lemmas.Cmp.{nat_list_eq_equiv}
use Rattle.std.proofs.lemmas.Map.Made.{length-from_keys}
use Rattle.std.proofs.lemmas.Slice.Eq.{bytes_eq-Decides}
use Rattle.std.proofs.lemmas.Bool.Decides.{nat_tests}
use Rattle.mq_rules.specs.declared.note.Note.{Note}
use Rattle.mq_rules.specs.declared.note.Note.TheVariants as notes
use Rattle.mq_rules.specs.declared.note.Seen.{Seen}
use Rattle.mq_rules.specs.declared.text.NotedFilter.{NotedFilter}
use Rattle.mq_rules.specs.Words.{is_id, only}
use Rattle.mq_rules.specs.Notes.{is_open, refuses, Subscription, Grant, received_subscription, sent_grant}
use Rattle.mq_rules.specs.Moments.{Moment, newest, note, moments, position, is_after, those, first_found, Among}
use Rattle.mq_rules.specs.Connections.{begun, number, of_connection, with_first}
use Rattle.mq_rules.specs.Subscriptions.{Standing, granted, codes_under, standing_of, standing_from}
use Rattle.mq_rules.proofs.Exports.{among-within, begun-least, begun-open, begun-same, none-first_found, option_or-none, those-among}
use Rattle.mq_evidence.specs.Evidence.{different}
use Rattle.mq_evidence.specs.Stretches.{longer}
use Rattle.mq_evidence.specs.Subscribed.{codes_in, standing_by, standing_in, times, stands, texts, waits_by, waits_in, waiting, refused, refused_of, lost, answers, named, asked, asks}

-- ---- one SUBSCRIBE

-- without Reason Codes each filter stands
times-asked : (f : List ℕ) (gs : List NotedFilter) → times f (granted gs []) ≡ named f (texts gs)
times-asked f [] = refl
times-asked f (g ∷ gs) = ap (λ n. cond (bytes_eq f g.filter) 1 0 + n) (times-asked f gs)

-- what stands, and what was refused, is what was asked for
times-granted : (f : List ℕ) (gs : List NotedFilter) (codes : List ℕ) → times f (granted gs codes) + refused f (texts gs) codes ≡ times f (granted gs [])
times-granted f [] codes = refl
times-granted f (g ∷ gs) [] = let rest = times-granted f gs [] in omega (arith, rest)
times-granted f (g ∷ gs) (code ∷ codes) =
    ap (λ n. n + (cond (refuses code && bytes_eq f g.filter) 1 0 + refused f (texts gs) codes)) (either (refuses code))
    ∙ go (refuses code) (bytes_eq f g.filter) (times-granted f gs codes)
  where
    either : (r : Bool) → times f (cond r (granted gs codes) (record { filter = g.filter; ceiling = code } ∷ granted gs codes)) ≡ cond r (times f (granted gs codes)) (cond (bytes_eq f g.filter) 1 0 + times f (granted gs codes))
    either true = refl
    either false = refl

    go : (r b : Bool) → times f (granted gs codes) + refused f (texts gs) codes ≡ times f (granted gs [])
        → cond r (times f (granted gs codes)) (cond b 1 0 + times f (granted gs codes)) + (cond (r && b) 1 0 + refused f (texts gs) codes) ≡ cond b 1 0 + times f (granted gs [])
    go true true h = omega (arith, h)
    go true false h = omega (arith, h)
    go false true h = omega (arith, h)
    go false false h = omega (arith, h)

-- the Reason Codes under an identifier
abbrev pub codes_of : ℕ → Option Grant → Option (List ℕ)
codes_of i g = option_map (λ a. a.codes) (option_and_then (λ a. only (a.identifier == i) (Some a)) g)

-- what a SUBACK refuses stands no more
lost-granted : (f : List ℕ) (here : Bool) (codes more : ℕ → Option (List ℕ)) (g : Option Grant) (o : Option Subscription) → ((i : ℕ) → more i ≡ option_or (codes i) (cond here (codes_of i g) None))
    → times f (standing_by more o) + lost f g (λ i. cons_option (waits_by i here codes o) []) ≡ times f (standing_by codes o)
lost-granted f here codes more None None h = refl
lost-granted f here codes more (Some a) None h = refl
lost-granted f here codes more g (Some s) h =
    ap (λ c. times f (granted s.filters (unwrap_or c [])) + lost f g (λ i. cons_option (only ((i == s.identifier) && (here && is_none (codes s.identifier))) (Some (texts s.filters))) [])) (h s.identifier)
    ∙ go here (codes s.identifier) g
  where
    nobody : (b : Bool) (cs : List ℕ) → refused_of f (cons_option (only (b && false) (Some (texts s.filters))) []) cs ≡ 0
    nobody true cs = refl
    nobody false cs = refl

    go : (here : Bool) (c : Option (List ℕ)) (g : Option Grant)
        → times f (granted s.filters (unwrap_or (option_or c (cond here (codes_of s.identifier g) None)) [])) + lost f g (λ i. cons_option (only ((i == s.identifier) && (here && is_none c)) (Some (texts s.filters))) [])
        ≡ times f (granted s.filters (unwrap_or c []))
    go true (Some cs) None = omega arith
    go false (Some cs) None = omega arith
    go true None None = omega arith
    go false None None = omega arith
    go true (Some cs) (Some a) = let none = nobody (a.identifier == s.identifier) a.codes in omega (arith, none)
    go false (Some cs) (Some a) = let none = nobody (a.identifier == s.identifier) a.codes in omega (arith, none)
    go false None (Some a) = let none = nobody (a.identifier == s.identifier) a.codes in omega (arith, none)
    go true None (Some a) = at (a.identifier == s.identifier)
      where
        at : (b : Bool) → times f (granted s.filters (unwrap_or (option_map (λ (a : Grant). a.codes) (only b (Some a))) [])) + refused_of f (cons_option (only (b && true) (Some (texts s.filters))) []) a.codes ≡ times f (granted s.filters [])
        at true = let all = times-granted f s.filters a.codes in omega (arith, all)
        at false = omega arith

-- what a SUBACK answers waits no more
waits-step : (i : ℕ) (here : Bool) (codes more : ℕ → Option (List ℕ)) (g : Option Grant) (o : Option Subscription) → ((i : ℕ) → more i ≡ option_or (codes i) (cond here (codes_of i g) None))
    → waits_by i here more o ≡ cond (answers i g) None (waits_by i here codes o)
waits-step i here codes more g None h = go (answers i g)
  where
    go : (b : Bool) → ◌≡◌ {A = Option (List (List ℕ))} None (cond b None None)
    go true = refl
    go false = refl
waits-step i here codes more g (Some s) h = ap (λ c. only ((i == s.identifier) && (here && is_none c)) (Some (texts s.filters))) (h s.identifier) ∙ go (i == s.identifier) refl here (codes s.identifier) g
  where
    none : (b : Bool) → ◌≡◌ {A = Option (List (List ℕ))} None (cond b None None)
    none true = refl
    none false = refl

    go : (b : Bool) → (i == s.identifier) ≡ b → (here : Bool) (c : Option (List ℕ)) (g : Option Grant)
        → only (b && (here && is_none (option_or c (cond here (codes_of s.identifier g) None)))) (Some (texts s.filters)) ≡ cond (answers i g) None (only (b && (here && is_none c)) (Some (texts s.filters)))
    go false n here c g = none (answers i g)
    go true n false c g = none (answers i g)
    go true n true (Some cs) g = none (answers i g)
    go true n true None None = refl
    go true n true None (Some a) =
        ap (λ k. only (is_none (option_map (λ (a : Grant). a.codes) (only (a.identifier == k) (Some a)))) (Some (texts s.filters))) (sym (eqb-true i s.identifier n))
        ∙ at (a.identifier == i)
      where
        at : (b : Bool) → only (is_none (option_map (λ (a : Grant). a.codes) (only b (Some a)))) (Some (texts s.filters)) ≡ cond b None (Some (texts s.filters))
        at true = refl
        at false = refl

-- ---- Reason Codes with one event more

codes-next : (i : ℕ) (j : Moment) (e : Seen) (past : List Seen) → position j ≤ length past → codes_in (e ∷ past) j i ≡ option_or (codes_in past j i) (cond (begun (e ∷ past) == number j) (codes_under i e.note) None)
codes-next i j e past within = go (begun (e ∷ past) == number j)
  where
    rest : List Moment
    rest = of_connection (number j) past

    later : is_after (newest e past) j ≡ true
    later = let p : length j.past + 1 ≤ length past = within in grind (arith, nat_tests)

    go : (b : Bool) → first_found (codes_under i) (those (λ m. is_after m j) (cond b (newest e past ∷ rest) rest)) ≡ option_or (first_found (codes_under i) (those (λ m. is_after m j) rest)) (cond b (codes_under i e.note) None)
    go true = ap (λ b. first_found (codes_under i) (cond b (newest e past ∷ those (λ m. is_after m j) rest) (those (λ m. is_after m j) rest))) later
    go false = sym (option_or-none (first_found (codes_under i) (those (λ m. is_after m j) rest)))

-- a SUBSCRIBE has no SUBACK when it comes
pub codes-newest : (i : ℕ) (e : Seen) (past : List Seen) → codes_in (e ∷ past) (newest e past) i ≡ None
codes-newest i e past = none-first_found (codes_under i) (those (λ m. is_after m (newest e past)) (of_connection (number (newest e past)) (e ∷ past))) (λ m among. absurd (never m among))
  where
    never : (m : Moment) → Among m (those (λ m. is_after m (newest e past)) (of_connection (number (newest e past)) (e ∷ past))) → ⊥
    never m among =
        let parts = those-among (λ m. is_after m (newest e past)) (of_connection (number (newest e past)) (e ∷ past)) m among in
        let inside = those-among (λ m. number m == number (newest e past)) (moments (e ∷ past)) m parts.0 in
        let within : length m.past + 1 ≤ length past + 1 = (let le = among-within m (e ∷ past) inside.0 in omega arith) in
        let after : nat_lt (length past + 1) (length m.past + 1) ≡ true = parts.1 in
        grind (arith, nat_tests)

among-number : (m : Moment) (log : List Seen) → Among m (moments log) → number m ≤ begun log
among-number m [] h = absurd h
among-number m (e ∷ past) (inl is) = let same : number m ≡ begun (e ∷ past) = ap number is in omega arith
among-number m (e ∷ past) (inr h) = let le = among-number m past h in let least = begun-least e past in omega arith

-- ---- several SUBSCRIBEs

refused-append : (f : List ℕ) (xs ys : List (List (List ℕ))) (codes : List ℕ) → refused_of f (xs ++ ys) codes ≡ refused_of f xs codes + refused_of f ys codes
refused-append f [] ys codes = omega arith
refused-append f (x ∷ xs) ys codes = let rest = refused-append f xs ys codes in omega (arith, rest)

lost-both : (f : List ℕ) (g : Option Grant) (v w : ℕ → List (List (List ℕ))) → lost f g (λ i. v i ++ w i) ≡ lost f g v + lost f g w
lost-both f None v w = refl
lost-both f (Some a) v w = refused-append f (v a.identifier) (w a.identifier) a.codes

module _ (e : Seen) (past : List Seen) where
  -- all these came before the event
  abbrev pub Before : List Moment → Type 0
  Before ms = (j : Moment) → Among j ms → Among j (moments past)

  -- where no connection begins
  pub codes-same : is_open e.note ≡ false → (j : Moment) → Among j (moments past) → (i : ℕ) → codes_in (e ∷ past) j i ≡ option_or (codes_in past j i) (cond (begun past == number j) (codes_of i (sent_grant e.note)) None)
  codes-same goes j a i = codes-next i j e past (among-within j past a) ∙ ap (λ n. option_or (codes_in past j i) (cond (n == number j) (codes_of i (sent_grant e.note)) None)) (begun-same e past goes)

  pub stands-goes : (f : List ℕ) (ms : List Moment) → Before ms → is_open e.note ≡ false → stands f (e ∷ past) ms + lost f (sent_grant e.note) (λ i. waiting i past ms) ≡ stands f past ms
  stands-goes f [] within goes = none (sent_grant e.note)
    where
      none : (g : Option Grant) → 0 + lost f g (λ i. []) ≡ 0
      none None = refl
      none (Some a) = refl
  stands-goes f (j ∷ js) within goes =
      let both = lost-both f (sent_grant e.note) (λ i. waiting i past js) (λ i. cons_option (waits_in i past j) []) in
      let first = lost-granted f (begun past == number j) (codes_in past j) (codes_in (e ∷ past) j) (sent_grant e.note) (received_subscription (note j)) (codes-same goes j (within j (inl refl))) in
      let rest = stands-goes f js (λ k a. within k (inr a)) goes in
      omega (arith, both, first, rest)

  pub waiting-goes : (i : ℕ) (ms : List Moment) → Before ms → is_open e.note ≡ false → waiting i (e ∷ past) ms ≡ cond (answers i (sent_grant e.note)) [] (waiting i past ms)
  waiting-goes i [] within goes = none (answers i (sent_grant e.note))
    where
      none : (b : Bool) → ◌≡◌ {A = List (List (List ℕ))} [] (cond b [] [])
      none true = refl
      none false = refl
  waiting-goes i (j ∷ js) within goes =
      ap (λ w. w ++ cons_option (waits_in i (e ∷ past) j) []) (waiting-goes i js (λ k a. within k (inr a)) goes)
      ∙ ap (λ n. cond (answers i (sent_grant e.note)) [] (waiting i past js) ++ cons_option (waits_by i (n == number j) (codes_in (e ∷ past) j) (received_subscription (note j))) []) (begun-same e past goes)
      ∙ ap (λ o. cond (answers i (sent_grant e.note)) [] (waiting i past js) ++ cons_option o [])
      (waits-step i (begun past == number j) (codes_in past j) (codes_in (e ∷ past) j) (sent_grant e.note) (received_subscription (note j)) (codes-same goes j (within j (inl refl))))
      ∙ go (answers i (sent_grant e.note)) (waiting i past js) (waits_in i past j)
    where
      go : (b : Bool) (w : List (List (List ℕ))) (o : Option (List (List ℕ))) → cond b [] w ++ cons_option (cond b None o) [] ≡ cond b [] (w ++ cons_option o [])
      go true w o = refl
      go false w o = refl

  -- where one begins, nothing waits any more
  pub elsewhere : is_open e.note ≡ true → (j : Moment) → Among j (moments past) → (begun (e ∷ past) == number j) ≡ false
  elsewhere opens j a =
      let least = among-number j past a in
      let later = begun-open e past opens in
      ne_eqb (begun (e ∷ past)) (number j) (λ same. absurd (omega (arith, least, later, same)))

  pub codes-kept : is_open e.note ≡ true → (j : Moment) → Among j (moments past) → (i : ℕ) → codes_in (e ∷ past) j i ≡ codes_in past j i
  codes-kept opens j a i =
      codes-next i j e past (among-within j past a)
      ∙ ap (λ b. option_or (codes_in past j i) (cond b (codes_under i e.note) None)) (elsewhere opens j a)
      ∙ option_or-none (codes_in past j i)

  pub stands-opens : (f : List ℕ) (ms : List Moment) → Before ms → is_open e.note ≡ true → stands f (e ∷ past) ms ≡ stands f past ms
  stands-opens f [] within opens = refl
  stands-opens f (j ∷ js) within opens =
      let first : times f (standing_in (e ∷ past) j) ≡ times f (standing_in past j) = go (received_subscription (note j)) in
      let rest = stands-opens f js (λ k a. within k (inr a)) opens in
      omega (arith, first, rest)
    where
      go : (o : Option Subscription) → times f (standing_by (codes_in (e ∷ past) j) o) ≡ times f (standing_by (codes_in past j) o)
      go None = refl
      go (Some s) = ap (λ c. times f (granted s.filters (unwrap_or c []))) (codes-kept opens j (within j (inl refl)) s.identifier)

  pub waiting-opens : (i : ℕ) (ms : List Moment) → Before ms → is_open e.note ≡ true → waiting i (e ∷ past) ms ≡ []
  waiting-opens i [] within opens = refl
  waiting-opens i (j ∷ js) within opens =
      ap (λ w. w ++ cons_option (waits_in i (e ∷ past) j) []) (waiting-opens i js (λ k a. within k (inr a)) opens)
      ∙ ap (λ b. cons_option (waits_by i b (codes_in (e ∷ past) j) (received_subscription (note j))) []) (elsewhere opens j (within j (inl refl)))
      ∙ go (received_subscription (note j))
    where
      no : (b : Bool) (gs : List (List ℕ)) → cons_option (only (b && false) (Some gs)) [] ≡ []
      no true gs = refl
      no false gs = refl

      go : (o : Option Subscription) → cons_option (waits_by i false (codes_in (e ∷ past) j) o) [] ≡ []
      go None = refl
      go (Some s) = no (i == s.identifier) (texts s.filters)

  -- the event itself
  pub stands-newest : (f : List ℕ) → times f (standing_in (e ∷ past) (newest e past)) ≡ named f (asked true (received_subscription e.note))
  stands-newest f = go (received_subscription e.note)
    where
      go : (o : Option Subscription) → times f (standing_by (codes_in (e ∷ past) (newest e past)) o) ≡ named f (asked true o)
      go None = refl
      go (Some s) = ap (λ c. times f (granted s.filters (unwrap_or c []))) (codes-newest s.identifier e past) ∙ times-asked f s.filters

  pub waits-newest : (i : ℕ) → waits_in i (e ∷ past) (newest e past) ≡ asks i true (received_subscription e.note)
  waits-newest i = ap (λ b. waits_by i b (codes_in (e ∷ past) (newest e past)) (received_subscription e.note)) (eq-eqb (begun (e ∷ past)) (number (newest e past)) refl) ∙ go (received_subscription e.note)
    where
      whole : (b : Bool) (gs : List (List ℕ)) → only (b && true) (Some gs) ≡ only b (Some gs)
      whole true gs = refl
      whole false gs = refl

      go : (o : Option Subscription) → waits_by i true (codes_in (e ∷ past) (newest e past)) o ≡ asks i true o
      go None = refl
      go (Some s) =
          ap (λ c. only ((i == s.identifier) && is_none c) (Some (texts s.filters))) (codes-newest s.identifier e past)
          ∙ whole (i == s.identifier) (texts s.filters)

-- ---- all that stand

times-append : (f : List ℕ) (xs ys : List Standing) → times f (xs ++ ys) ≡ times f xs + times f ys
times-append f [] ys = omega arith
times-append f (x ∷ xs) ys = let rest = times-append f xs ys in omega (arith, rest)

pub stands-times : (f : List ℕ) (k : Moment) (ms : List Moment) → times f (standing_of k ms) ≡ stands f k.past ms
stands-times f k [] = refl
stands-times f k (j ∷ js) = let both = times-append f (standing_from k j) (standing_of k js) in let rest = stands-times f k js in omega (arith, both, rest)

-- ---- how often a filter stands, in a map

eq-turn : (f g : List ℕ) → bytes_eq f g ≡ bytes_eq g f
eq-turn f g = go (bytes_eq f g) (bytes_eq g f) refl refl
  where
    go : (a b : Bool) → bytes_eq f g ≡ a → bytes_eq g f ≡ b → a ≡ b
    go true true h k = refl
    go true false h k = let same : f ≡ g = (bytes_eq-Decides f g).0 h in let bad : bytes_eq g f ≡ true = (bytes_eq-Decides g f).1 (sym same) in absurd (cc)
    go false true h k = let same : g ≡ f = (bytes_eq-Decides g f).0 k in let bad : bytes_eq f g ≡ true = (bytes_eq-Decides f g).1 (sym same) in absurd (cc)
    go false false h k = refl

module _ (at : List ℕ → Option ℕ) (g f : List ℕ) where
  -- the filter g stands once more
  pub raised-count : (after : Option ℕ) (n v : ℕ) → after ≡ cond (bytes_eq g f) (Some v) (at f) → n ≡ unwrap_or (at g) 0 → v ≡ n + 1 → unwrap_or after 0 ≡ cond (bytes_eq f g) 1 0 + unwrap_or (at f) 0
  raised-count after n v is old more = ap (λ o. unwrap_or o 0) is ∙ go (bytes_eq g f) refl ∙ ap (λ b. cond b 1 0 + unwrap_or (at f) 0) (eq-turn g f)
    where
      go : (b : Bool) → bytes_eq g f ≡ b → unwrap_or (cond b (Some v) (at f)) 0 ≡ cond b 1 0 + unwrap_or (at f) 0
      go true h = let same : g ≡ f = (bytes_eq-Decides g f).0 h in let there : unwrap_or (at g) 0 ≡ unwrap_or (at f) 0 = ap (λ k. unwrap_or (at k) 0) same in omega (arith, old, more, there)
      go false h = omega arith

  pub raised-positive : (after : Option ℕ) (n v : ℕ) → after ≡ cond (bytes_eq g f) (Some v) (at f) → v ≡ n + 1 → is_id 0 (at f) ≡ false → is_id 0 after ≡ false
  raised-positive after n v is more positive = ap (is_id 0) is ∙ go (bytes_eq g f)
    where
      go : (b : Bool) → is_id 0 (cond b (Some v) (at f)) ≡ false
      go true = ne_eqb 0 v (λ same. absurd (omega (arith, same, more)))
      go false = positive

  -- it stands once less: it stood once
  pub dropped-count : (after : Option ℕ) (n : ℕ) → after ≡ cond (bytes_eq g f) None (at f) → Some n ≡ at g → n ≤ 1 → unwrap_or after 0 ≡ unwrap_or (at f) 0 - cond (bytes_eq f g) 1 0
  dropped-count after n is old least = ap (λ o. unwrap_or o 0) is ∙ go (bytes_eq g f) refl ∙ ap (λ b. unwrap_or (at f) 0 - cond b 1 0) (eq-turn g f)
    where
      go : (b : Bool) → bytes_eq g f ≡ b → unwrap_or (cond b None (at f)) 0 ≡ unwrap_or (at f) 0 - cond b 1 0
      go true h = let same : g ≡ f = (bytes_eq-Decides g f).0 h in let there : n ≡ unwrap_or (at f) 0 = ap (λ o. unwrap_or o 0) old ∙ ap (λ k. unwrap_or (at k) 0) same in omega (arith, least, there)
      go false h = omega arith

  pub dropped-positive : (after : Option ℕ) → after ≡ cond (bytes_eq g f) None (at f) → is_id 0 (at f) ≡ false → is_id 0 after ≡ false
  dropped-positive after is positive = ap (is_id 0) is ∙ go (bytes_eq g f)
    where
      go : (b : Bool) → is_id 0 (cond b None (at f)) ≡ false
      go true = refl
      go false = positive

  -- it stood more often
  pub lowered : (mid after : Option ℕ) (k : List ℕ) (v : ℕ) → mid ≡ cond (bytes_eq g f) None (at f) → after ≡ cond (bytes_eq k f) (Some v) mid → g ≡ k → after ≡ cond (bytes_eq g f) (Some v) (at f)
  lowered mid after k v removed put same =
      put ∙ ap (λ o. cond (bytes_eq k f) (Some v) o) removed ∙ ap (λ x. cond (bytes_eq x f) (Some v) (cond (bytes_eq g f) None (at f))) (sym same) ∙ go (bytes_eq g f)
    where
      go : (b : Bool) → cond b (Some v) (cond b None (at f)) ≡ cond b (Some v) (at f)
      go true = refl
      go false = refl

  pub lowered-count : (after : Option ℕ) (n : ℕ) → after ≡ cond (bytes_eq g f) (Some (n - 1)) (at f) → Some n ≡ at g → unwrap_or after 0 ≡ unwrap_or (at f) 0 - cond (bytes_eq f g) 1 0
  lowered-count after n is old = ap (λ o. unwrap_or o 0) is ∙ go (bytes_eq g f) refl ∙ ap (λ b. unwrap_or (at f) 0 - cond b 1 0) (eq-turn g f)
    where
      go : (b : Bool) → bytes_eq g f ≡ b → unwrap_or (cond b (Some (n - 1)) (at f)) 0 ≡ unwrap_or (at f) 0 - cond b 1 0
      go true h = let same : g ≡ f = (bytes_eq-Decides g f).0 h in let there : n ≡ unwrap_or (at f) 0 = ap (λ o. unwrap_or o 0) old ∙ ap (λ k. unwrap_or (at k) 0) same in omega (arith, there)
      go false h = omega arith

  pub lowered-positive : (after : Option ℕ) (n : ℕ) → after ≡ cond (bytes_eq g f) (Some (n - 1)) (at f) → 1 < n → is_id 0 (at f) ≡ false → is_id 0 after ≡ false
  lowered-positive after n is more positive = ap (is_id 0) is ∙ go (bytes_eq g f)
    where
      go : (b : Bool) → is_id 0 (cond b (Some (n - 1)) (at f)) ≡ false
      go true = ne_eqb 0 (n - 1) (λ same. absurd (omega (arith, same, more)))
      go false = positive

-- ---- how many different ones

abbrev filters_of : List Standing → List (List ℕ)
filters_of [] = []
filters_of (s ∷ ss) = s.filter ∷ filters_of ss

filters-any : (f : List ℕ) (ss : List Standing) → list_any (λ t. bytes_eq f t.filter) ss ≡ list_any (bytes_eq f) (filters_of ss)
filters-any f [] = refl
filters-any f (s ∷ ss) = ap (λ b. bytes_eq f s.filter || b) (filters-any f ss)

filters-times : (f : List ℕ) (ss : List Standing) → list_any (bytes_eq f) (filters_of ss) ≡ nat_lt 0 (times f ss)
filters-times f [] = refl
filters-times f (s ∷ ss) = go (bytes_eq f s.filter) (filters-times f ss)
  where
    go : (b : Bool) → list_any (bytes_eq f) (filters_of ss) ≡ nat_lt 0 (times f ss) → (b || list_any (bytes_eq f) (filters_of ss)) ≡ nat_lt 0 (cond b 1 0 + times f ss)
    go true h = sym (lt-ltb 0 (1 + times f ss) (omega arith))
    go false h = let none : times f ss ≡ 0 + times f ss = omega arith in h ∙ ap (nat_lt 0) none

different-filters : (ss : List Standing) → different ss ≡ distinct_count bytes_eq (filters_of ss)
different-filters [] = refl
different-filters (s ∷ ss) = ap (λ b. cond b 0 1 + different ss) (filters-any s.filter ss) ∙ go (list_any (bytes_eq s.filter) (filters_of ss)) (different-filters ss)
  where
    go : (b : Bool) → different ss ≡ distinct_count bytes_eq (filters_of ss) → cond b 0 1 + different ss ≡ length (cond b (unique_keys bytes_eq (filters_of ss)) (s.filter ∷ unique_keys bytes_eq (filters_of ss)))
    go true h = omega (arith, h)
    go false h = omega (arith, h)

module _ {Y : Type 0} where
  abbrev names : List (String Y × ℕ) → List (List ℕ)
  names [] = []
  names (e ∷ es) = string_bytes e.0 ∷ names es

  names-length : (es : List (String Y × ℕ)) → length (names es) ≡ length es
  names-length [] = refl
  names-length (e ∷ es) = let rest = names-length es in omega (arith, rest)

  names-apart : (k : String Y) (es : List (String Y × ℕ)) → AllByRecursion (λ y. string_eq k y ≡ false) (keys_of es) → AllByRecursion (λ y. bytes_eq (string_bytes k) y ≡ false) (names es)
  names-apart k [] h = tt
  names-apart k (e ∷ es) h = (h.0, names-apart k es h.1)

  names-distinct : (es : List (String Y × ℕ)) → IsDistinct string_eq (keys_of es) → IsDistinct bytes_eq (names es)
  unfolding IsDistinct
  names-distinct [] h = tt
  names-distinct (e ∷ es) h = (names-apart e.0 es h.0, names-distinct es h.1)

  names-any : (f : List ℕ) (es : List (String Y × ℕ)) → list_any (bytes_eq f) (names es) ≡ is_some (lookup (λ k. bytes_eq f (string_bytes k)) es)
  names-any f [] = refl
  names-any f (e ∷ es) = go (bytes_eq f (string_bytes e.0)) (names-any f es)
    where
      go : (b : Bool) → list_any (bytes_eq f) (names es) ≡ is_some (lookup (λ k. bytes_eq f (string_bytes k)) es) → (b || list_any (bytes_eq f) (names es)) ≡ is_some (cond b (Some e.1) (lookup (λ k. bytes_eq f (string_bytes k)) es))
      go true h = refl
      go false h = h

  -- as many as the map keeps, where each of these stands
  pub different-count : (es : List (String Y × ℕ)) (k : Moment) (ms : List Moment) → IsDistinct string_eq (keys_of es)
      → ((f : List ℕ) → unwrap_or (lookup (λ k. bytes_eq f (string_bytes k)) es) 0 ≡ stands f k.past ms) → ((f : List ℕ) → is_id 0 (lookup (λ k. bytes_eq f (string_bytes k)) es) ≡ false) → length es ≡ different (standing_of k ms)
  different-count es k ms apart counts positive =
      sym (names-length es)
      ∙ length-from_keys nat_list_eq_equiv (names es) (filters_of (standing_of k ms)) (names-distinct es apart)
      (λ f. names-any f es ∙ there (lookup (λ k. bytes_eq f (string_bytes k)) es) (positive f) ∙ ap (nat_lt 0) (counts f ∙ sym (stands-times f k ms)) ∙ sym (filters-times f (standing_of k ms)))
      ∙ sym (different-filters (standing_of k ms))
    where
      some : (n : ℕ) → (0 == n) ≡ false → true ≡ nat_lt 0 n
      some n h = grind (arith, nat_tests)

      there : (o : Option ℕ) → is_id 0 o ≡ false → is_some o ≡ nat_lt 0 (unwrap_or o 0)
      there None h = refl
      there (Some n) h = some n h

-- ---- all that is kept, with one event more

-- an OPEN is no SUBACK
pub open-grants : (n : Note) → is_open n ≡ true → sent_grant n ≡ None
open-grants notes.Open h = refl
open-grants _ h = absurd (cc)

lost-alike : (f : List ℕ) (g : Option Grant) (v w : ℕ → List (List (List ℕ))) → ((i : ℕ) → v i ≡ w i) → lost f g v ≡ lost f g w
lost-alike f None v w h = refl
lost-alike f (Some a) v w h = ap (λ x. refused_of f x a.codes) (h a.identifier)

module _ (e : Seen) (past : List Seen) (ms : List Moment) (begins inside : Bool) (within : Before e past ms) where
  -- the moments that the session goes on with
  abbrev held : List Moment
  held = cond begins [] ms

  held-before : Before e past held
  held-before = go begins
    where
      go : (b : Bool) → Before e past (cond b [] ms)
      go true = λ j a. absurd a
      go false = within

  pub counts-next : (c d a b : List ℕ → ℕ) (w v : ℕ → List (List (List ℕ))) → ((f : List ℕ) → c f ≡ stands f past ms) → ((i : ℕ) → w i ≡ waiting i past ms)
      → ((f : List ℕ) → d f ≡ cond begins 0 (c f)) → ((i : ℕ) → v i ≡ cond (begins || is_open e.note) [] (w i))
      → ((f : List ℕ) → a f ≡ d f - lost f (sent_grant e.note) v) → ((f : List ℕ) → b f ≡ named f (asked inside (received_subscription e.note)) + a f)
      → (f : List ℕ) → b f ≡ stands f (e ∷ past) (longer begins inside (newest e past) ms)
  counts-next c d a b w v was waited begun emptied refuses-some asks-some f =
      let first : d f ≡ stands f past held = begun f ∙ ap (cond begins 0) (was f) ∙ start begins in
      let second : a f ≡ stands f (e ∷ past) held = granted-some (is_open e.note) refl first in
      asks-some f ∙ ap (λ n. named f (asked inside (received_subscription e.note)) + n) second ∙ last inside
    where
      start : (b : Bool) → cond b 0 (stands f past ms) ≡ stands f past (cond b [] ms)
      start true = refl
      start false = refl

      same : is_open e.note ≡ false → (i : ℕ) → v i ≡ waiting i past held
      same h i = emptied i ∙ ap (λ o. cond (begins || o) [] (w i)) h ∙ ap (cond (begins || false) []) (waited i) ∙ go begins
        where
          go : (b : Bool) → cond (b || false) [] (waiting i past ms) ≡ waiting i past (cond b [] ms)
          go true = refl
          go false = refl

      granted-some : (o : Bool) → is_open e.note ≡ o → d f ≡ stands f past held → a f ≡ stands f (e ∷ past) held
      granted-some true h first =
          refuses-some f ∙ ap (λ g. d f - lost f g v) (open-grants e.note h) ∙ (let all = stands-opens e past f held held-before h in omega (arith, first, all))
      granted-some false h first =
          refuses-some f
          ∙ (let all = stands-goes e past f held held-before h in let alike = lost-alike f (sent_grant e.note) v (λ i. waiting i past held) (same h) in omega (arith, first, all, alike))

      last : (b : Bool) → named f (asked b (received_subscription e.note)) + stands f (e ∷ past) held ≡ stands f (e ∷ past) (with_first b (newest e past) held)
      last true = ap (λ n. n + stands f (e ∷ past) held) (sym (stands-newest e past f))
      last false = omega arith

  pub waiting-next : (w v u x : ℕ → List (List (List ℕ))) → ((i : ℕ) → w i ≡ waiting i past ms) → ((i : ℕ) → v i ≡ cond (begins || is_open e.note) [] (w i))
      → ((i : ℕ) → u i ≡ cond (answers i (sent_grant e.note)) [] (v i)) → ((i : ℕ) → x i ≡ u i ++ cons_option (asks i inside (received_subscription e.note)) [])
      → (i : ℕ) → x i ≡ waiting i (e ∷ past) (longer begins inside (newest e past) ms)
  waiting-next w v u x waited emptied answered asked-some i =
      asked-some i ∙ ap (λ y. y ++ cons_option (asks i inside (received_subscription e.note)) []) (answered i ∙ left (is_open e.note) refl) ∙ last inside
    where
      none : (b : Bool) → ◌≡◌ {A = List (List (List ℕ))} (cond b [] []) []
      none true = refl
      none false = refl

      left : (o : Bool) → is_open e.note ≡ o → cond (answers i (sent_grant e.note)) [] (v i) ≡ waiting i (e ∷ past) held
      left true h =
          ap (cond (answers i (sent_grant e.note)) []) (emptied i ∙ ap (λ o. cond (begins || o) [] (w i)) h ∙ all begins)
          ∙ none (answers i (sent_grant e.note))
          ∙ sym (waiting-opens e past i held held-before h)
        where
          all : (b : Bool) → cond (b || true) [] (w i) ≡ []
          all true = refl
          all false = refl
      left false h =
          ap (cond (answers i (sent_grant e.note)) []) (emptied i ∙ ap (λ o. cond (begins || o) [] (w i)) h ∙ ap (cond (begins || false) []) (waited i) ∙ go begins)
          ∙ sym (waiting-goes e past i held held-before h)
        where
          go : (b : Bool) → cond (b || false) [] (waiting i past ms) ≡ waiting i past (cond b [] ms)
          go true = refl
          go false = refl

      last : (b : Bool) → waiting i (e ∷ past) held ++ cons_option (asks i b (received_subscription e.note)) [] ≡ waiting i (e ∷ past) (with_first b (newest e past) held)
      last true = ap (λ o. waiting i (e ∷ past) held ++ cons_option o []) (sym (waits-newest e past i))
      last false = append-nil (waiting i (e ∷ past) held)

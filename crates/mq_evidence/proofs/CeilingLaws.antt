-- What may be sent for a topic, and the last SUBSCRIBE that asked for it, with one event more.
use Rattle.std.proofs.Common.{◌≡◌, ℕ, ◌<◌, ◌==◌, ◌%◌, nat_eq, nat_lt, nat_le, arith, Bool, true, false, cond, ◌&&◌, ◌||◌, List, [], ◌∷◌, ◌++◌, length, append-nil, Option, Some, None, refl, ap, sym, ◌∙◌, inl, inr}
use Rattle.std.specs.Prelude.{is_none, unwrap_or, option_map}
use Rattle.std.specs.Option.{option_or}
use Rattle.std.specs.List.{cons_option, list_any, IsDistinct, AllByRecursion}
use Rattle.std.specs.Map.{keys_of, values_of, lookup}
use Rattle.std.proofs.lemmas.Bool.{eq-eqb, eqb-true}
use Rattle.std.proofs.lemmas.Bool.Decides.{nat_tests}
use Rattle.std.proofs.lemmas.List.Folds.{list_any-append}
use Rattle.mq_topic.specs.Matching.{matches}
use Rattle.mq_rules.specs.declared.note.Seen.{Seen}
use Rattle.mq_rules.specs.declared.text.NotedFilter.{NotedFilter}
use Rattle.mq_rules.specs.Words.{only}
use Rattle.mq_rules.specs.Notes.{is_open, refuses, Subscription, Grant, received_subscription, sent_grant}
use Rattle.mq_rules.specs.Moments.{Moment, newest, note, position, moments, some, latest, Among, IsDescending}
use Rattle.mq_rules.specs.Connections.{begun, number, with_first}
use Rattle.mq_rules.specs.Subscriptions.{Standing, granted, standing_of, standing_from}
use Rattle.mq_rules.proofs.Exports.{begun-same, or_false}
use Rattle.mq_filters.specs.Standings.{has_ceiling}
use Rattle.mq_evidence.specs.Evidence.{greatest_for}
use Rattle.mq_evidence.specs.Stretches.{longer, later_at}
use Rattle.mq_evidence.specs.Subscribed.{codes_in, standing_by, answers}
use Rattle.mq_evidence.specs.Ceilings.{settled_by, settled_in, unsettled, asked_by, asked_in, asked_under, any_asked, asks_in, with_codes, settles_of, settles, asks_under}
use Rattle.mq_evidence.specs.Unsettled.{Unsettled}
use Rattle.mq_evidence.proofs.SubscribedLaws.{Before, codes_of, codes-same, codes-kept, codes-newest, elsewhere, open-grants}

-- filters without codes stay as they are
pub codes_none : (ss : List Standing) → with_codes ss [] ≡ ss
codes_none [] = refl
codes_none (s ∷ ss) = ap (λ rest. s ∷ rest) (codes_none ss)

-- ---- one SUBSCRIBE

-- the filters of a SUBSCRIBE with the Reason Codes of its SUBACK
codes-granted : (filters : List NotedFilter) (codes : List ℕ) → with_codes (granted filters []) codes ≡ granted filters codes
codes-granted [] codes = refl
codes-granted (f ∷ filters) [] = ap (λ ss. record { filter = f.filter; ceiling = f.options % 4 } ∷ ss) (codes-granted filters [])
codes-granted (f ∷ filters) (code ∷ codes) = go (refuses code) (codes-granted filters codes)
  where
    go : (b : Bool) → with_codes (granted filters []) codes ≡ granted filters codes
        → cond b [] (record { filter = f.filter; ceiling = code } ∷ []) ++ with_codes (granted filters []) codes ≡ cond b (granted filters codes) (record { filter = f.filter; ceiling = code } ∷ granted filters codes)
    go true h = h
    go false h = ap (λ ss. record { filter = f.filter; ceiling = code } ∷ ss) h

settled-step : (t : ℕ → Standing → Bool) (at : ℕ) (here : Bool) (codes more : ℕ → Option (List ℕ)) (g : Option Grant) (o : Option Subscription) → ((i : ℕ) → more i ≡ option_or (codes i) (cond here (codes_of i g) None))
    → list_any (t at) (settled_by here more o) ≡ (list_any (t at) (settled_by here codes o) || settles t g (λ i. cons_option (asked_by i at here codes o) []))
settled-step t at here codes more None None h = refl
settled-step t at here codes more (Some a) None h = refl
settled-step t at here codes more g (Some s) h = ap (λ c. list_any (t at) (cond (here && is_none c) [] (granted s.filters (unwrap_or c [])))) (h s.identifier) ∙ go here (codes s.identifier) g
  where
    nobody : (b : Bool) (g : List ℕ) → list_any (settles_of t g) (cons_option (only (b && false) (Some (unsettled at s))) []) ≡ false
    nobody true g = refl
    nobody false g = refl

    beside : (x : Bool) (g : Option Grant) → x ≡ (x || settles t g (λ i. cons_option (only ((i == s.identifier) && false) (Some (unsettled at s))) []))
    beside x None = sym (or_false x)
    beside x (Some a) = sym (ap (λ b. x || b) (nobody (a.identifier == s.identifier) a.codes) ∙ or_false x)

    go : (here : Bool) (c : Option (List ℕ)) (g : Option Grant)
        → list_any (t at) (cond (here && is_none (option_or c (cond here (codes_of s.identifier g) None))) [] (granted s.filters (unwrap_or (option_or c (cond here (codes_of s.identifier g) None)) [])))
        ≡ (list_any (t at) (cond (here && is_none c) [] (granted s.filters (unwrap_or c []))) || settles t g (λ i. cons_option (only ((i == s.identifier) && (here && is_none c)) (Some (unsettled at s))) []))
    go true (Some cs) g = beside (list_any (t at) (granted s.filters cs)) g
    go false (Some cs) g = beside (list_any (t at) (granted s.filters cs)) g
    go false None g = beside (list_any (t at) (granted s.filters [])) g
    go true None None = refl
    go true None (Some a) = known (a.identifier == s.identifier)
      where
        known : (b : Bool) → list_any (t at) (cond (is_none (option_map (λ (a : Grant). a.codes) (only b (Some a)))) [] (granted s.filters (unwrap_or (option_map (λ (a : Grant). a.codes) (only b (Some a))) [])))
            ≡ list_any (settles_of t a.codes) (cons_option (only (b && true) (Some (unsettled at s))) [])
        known true = ap (list_any (t at)) (sym (codes-granted s.filters a.codes)) ∙ sym (or_false (list_any (t at) (with_codes (granted s.filters []) a.codes)))
        known false = refl

-- what a SUBACK answers waits no more
asked-step : (i at : ℕ) (here : Bool) (codes more : ℕ → Option (List ℕ)) (g : Option Grant) (o : Option Subscription) → ((i : ℕ) → more i ≡ option_or (codes i) (cond here (codes_of i g) None))
    → asked_by i at here more o ≡ cond (answers i g) None (asked_by i at here codes o)
asked-step i at here codes more g None h = go (answers i g)
  where
    go : (b : Bool) → ◌≡◌ {A = Option Unsettled} None (cond b None None)
    go true = refl
    go false = refl
asked-step i at here codes more g (Some s) h = ap (λ c. only ((i == s.identifier) && (here && is_none c)) (Some (unsettled at s))) (h s.identifier) ∙ go (i == s.identifier) refl here (codes s.identifier) g
  where
    none : (b : Bool) → ◌≡◌ {A = Option Unsettled} None (cond b None None)
    none true = refl
    none false = refl

    go : (b : Bool) → (i == s.identifier) ≡ b → (here : Bool) (c : Option (List ℕ)) (g : Option Grant)
        → only (b && (here && is_none (option_or c (cond here (codes_of s.identifier g) None)))) (Some (unsettled at s)) ≡ cond (answers i g) None (only (b && (here && is_none c)) (Some (unsettled at s)))
    go false n here c g = none (answers i g)
    go true n false c g = none (answers i g)
    go true n true (Some cs) g = none (answers i g)
    go true n true None None = refl
    go true n true None (Some a) =
        ap (λ k. only (is_none (option_map (λ (a : Grant). a.codes) (only (a.identifier == k) (Some a)))) (Some (unsettled at s))) (sym (eqb-true i s.identifier n))
        ∙ known (a.identifier == i)
      where
        known : (b : Bool) → only (is_none (option_map (λ (a : Grant). a.codes) (only b (Some a)))) (Some (unsettled at s)) ≡ cond b None (Some (unsettled at s))
        known true = refl
        known false = refl

-- what stands is what is settled, and what is asked for
standing-parts : (t : ℕ → Standing → Bool) (at : ℕ) (here : Bool) (codes : ℕ → Option (List ℕ)) (o : Option Subscription) → list_any (t at) (standing_by codes o) ≡ (list_any (t at) (settled_by here codes o) || any_asked (λ r. list_any (t r.position) r.filters) at here codes o)
standing-parts t at here codes None = refl
standing-parts t at here codes (Some s) = go here (codes s.identifier)
  where
    go : (here : Bool) (c : Option (List ℕ)) → list_any (t at) (granted s.filters (unwrap_or c [])) ≡ (list_any (t at) (cond (here && is_none c) [] (granted s.filters (unwrap_or c []))) || ((here && is_none c) && list_any (t at) (granted s.filters [])))
    go true None = refl
    go true (Some cs) = sym (or_false (list_any (t at) (granted s.filters cs)))
    go false c = sym (or_false (list_any (t at) (granted s.filters (unwrap_or c []))))

-- ---- several SUBSCRIBEs

settles-both : (t : ℕ → Standing → Bool) (g : Option Grant) (v w : ℕ → List Unsettled) → settles t g (λ i. v i ++ w i) ≡ (settles t g v || settles t g w)
settles-both t None v w = refl
settles-both t (Some a) v w = list_any-append (settles_of t a.codes) (v a.identifier) (w a.identifier)

settles-alike : (t : ℕ → Standing → Bool) (g : Option Grant) (v w : ℕ → List Unsettled) → ((i : ℕ) → v i ≡ w i) → settles t g v ≡ settles t g w
settles-alike t None v w h = refl
settles-alike t (Some a) v w h = ap (list_any (settles_of t a.codes)) (h a.identifier)

crossed : (a b c d : Bool) → ((a || b) || (c || d)) ≡ ((a || c) || (d || b))
crossed true b c d = refl
crossed false true true d = refl
crossed false true false true = refl
crossed false true false false = refl
crossed false false true d = refl
crossed false false false true = refl
crossed false false false false = refl

either-of : (p q r : Moment → Bool) (ms : List Moment) → ((j : Moment) → Among j ms → p j ≡ (q j || r j)) → some p ms ≡ (some q ms || some r ms)
either-of p q r [] h = refl
either-of p q r (m ∷ ms) h = ap (λ b. b || some p ms) (h m (inl refl)) ∙ ap (λ b. (q m || r m) || b) (either-of p q r ms (λ j a. h j (inr a))) ∙ go (q m) (r m) (some q ms) (some r ms)
  where
    go : (a b c d : Bool) → ((a || b) || (c || d)) ≡ ((a || c) || (b || d))
    go true b c d = refl
    go false true true d = refl
    go false true false d = refl
    go false false c d = refl

module _ (e : Seen) (past : List Seen) where
  settled-goes : (t : ℕ → Standing → Bool) (ms : List Moment) → Before e past ms → is_open e.note ≡ false
      → some (λ j. list_any (t (position j)) (settled_in (e ∷ past) j)) ms ≡ (some (λ j. list_any (t (position j)) (settled_in past j)) ms || settles t (sent_grant e.note) (λ i. asked_under i past ms))
  settled-goes t [] within goes = none (sent_grant e.note)
    where
      none : (g : Option Grant) → false ≡ (false || settles t g (λ i. []))
      none None = refl
      none (Some a) = refl
  settled-goes t (j ∷ js) within goes =
      ap (λ n. list_any (t (position j)) (settled_by (n == number j) (codes_in (e ∷ past) j) (received_subscription (note j))) || some (λ j. list_any (t (position j)) (settled_in (e ∷ past) j)) js) (begun-same e past goes)
      ∙ ap (λ b. b || some (λ j. list_any (t (position j)) (settled_in (e ∷ past) j)) js)
      (settled-step t (position j) (begun past == number j) (codes_in past j) (codes_in (e ∷ past) j) (sent_grant e.note) (received_subscription (note j)) (codes-same e past goes j (within j (inl refl))))
      ∙ ap (λ b. (list_any (t (position j)) (settled_in past j) || settles t (sent_grant e.note) (λ i. cons_option (asked_in i past j) [])) || b) (settled-goes t js (λ k a. within k (inr a)) goes)
      ∙ crossed (list_any (t (position j)) (settled_in past j)) (settles t (sent_grant e.note) (λ i. cons_option (asked_in i past j) [])) (some (λ j. list_any (t (position j)) (settled_in past j)) js) (settles t (sent_grant e.note) (λ i. asked_under i past js))
      ∙ ap (λ b. (list_any (t (position j)) (settled_in past j) || some (λ j. list_any (t (position j)) (settled_in past j)) js) || b) (sym (settles-both t (sent_grant e.note) (λ i. asked_under i past js) (λ i. cons_option (asked_in i past j) [])))

  asked-goes : (i : ℕ) (ms : List Moment) → Before e past ms → is_open e.note ≡ false → asked_under i (e ∷ past) ms ≡ cond (answers i (sent_grant e.note)) [] (asked_under i past ms)
  asked-goes i [] within goes = none (answers i (sent_grant e.note))
    where
      none : (b : Bool) → ◌≡◌ {A = List Unsettled} [] (cond b [] [])
      none true = refl
      none false = refl
  asked-goes i (j ∷ js) within goes =
      ap (λ w. w ++ cons_option (asked_in i (e ∷ past) j) []) (asked-goes i js (λ k a. within k (inr a)) goes)
      ∙ ap (λ n. cond (answers i (sent_grant e.note)) [] (asked_under i past js) ++ cons_option (asked_by i (position j) (n == number j) (codes_in (e ∷ past) j) (received_subscription (note j))) []) (begun-same e past goes)
      ∙ ap (λ o. cond (answers i (sent_grant e.note)) [] (asked_under i past js) ++ cons_option o [])
      (asked-step i (position j) (begun past == number j) (codes_in past j) (codes_in (e ∷ past) j) (sent_grant e.note) (received_subscription (note j)) (codes-same e past goes j (within j (inl refl))))
      ∙ go (answers i (sent_grant e.note)) (asked_under i past js) (asked_in i past j)
    where
      go : (b : Bool) (w : List Unsettled) (o : Option Unsettled) → cond b [] w ++ cons_option (cond b None o) [] ≡ cond b [] (w ++ cons_option o [])
      go true w o = refl
      go false w o = refl

  -- where a connection begins, all that waited is settled as it was asked for
  settled-opens : (t : ℕ → Standing → Bool) (ms : List Moment) → Before e past ms → is_open e.note ≡ true
      → some (λ j. list_any (t (position j)) (settled_in (e ∷ past) j)) ms ≡ (some (λ j. list_any (t (position j)) (settled_in past j)) ms || some (asks_in (λ r. list_any (t r.position) r.filters) past) ms)
  settled-opens t ms within opens = either-of (λ j. list_any (t (position j)) (settled_in (e ∷ past) j)) (λ j. list_any (t (position j)) (settled_in past j)) (asks_in (λ r. list_any (t r.position) r.filters) past) ms (λ j a.
      ap (λ b. list_any (t (position j)) (settled_by b (codes_in (e ∷ past) j) (received_subscription (note j)))) (elsewhere e past opens j (within j a))
      ∙ same j (within j a) (received_subscription (note j))
      ∙ standing-parts t (position j) (begun past == number j) (codes_in past j) (received_subscription (note j)))
    where
      same : (j : Moment) → Among j (moments past) → (o : Option Subscription) → list_any (t (position j)) (settled_by false (codes_in (e ∷ past) j) o) ≡ list_any (t (position j)) (standing_by (codes_in past j) o)
      same j a None = refl
      same j a (Some s) = ap (λ c. list_any (t (position j)) (granted s.filters (unwrap_or c []))) (codes-kept e past opens j a s.identifier)

  asked-opens : (i : ℕ) (ms : List Moment) → Before e past ms → is_open e.note ≡ true → asked_under i (e ∷ past) ms ≡ []
  asked-opens i [] within opens = refl
  asked-opens i (j ∷ js) within opens =
      ap (λ w. w ++ cons_option (asked_in i (e ∷ past) j) []) (asked-opens i js (λ k a. within k (inr a)) opens)
      ∙ ap (λ b. cons_option (asked_by i (position j) b (codes_in (e ∷ past) j) (received_subscription (note j))) []) (elsewhere e past opens j (within j (inl refl)))
      ∙ go (received_subscription (note j))
    where
      no : (b : Bool) (r : Unsettled) → cons_option (only (b && false) (Some r)) [] ≡ []
      no true r = refl
      no false r = refl

      go : (o : Option Subscription) → cons_option (asked_by i (position j) false (codes_in (e ∷ past) j) o) [] ≡ []
      go None = refl
      go (Some s) = no (i == s.identifier) (unsettled (position j) s)

  -- the event itself settles nothing
  settled-newest : (t : ℕ → Standing → Bool) → list_any (t (position (newest e past))) (settled_in (e ∷ past) (newest e past)) ≡ false
  settled-newest t = ap (λ b. list_any (t (position (newest e past))) (settled_by b (codes_in (e ∷ past) (newest e past)) (received_subscription e.note))) (eq-eqb (begun (e ∷ past)) (number (newest e past)) refl) ∙ go (received_subscription e.note)
    where
      go : (o : Option Subscription) → list_any (t (position (newest e past))) (settled_by true (codes_in (e ∷ past) (newest e past)) o) ≡ false
      go None = refl
      go (Some s) = ap (λ c. list_any (t (position (newest e past))) (cond (is_none c) [] (granted s.filters (unwrap_or c [])))) (codes-newest s.identifier e past)

  asked-newest : (i : ℕ) → asked_in i (e ∷ past) (newest e past) ≡ asks_under i (position (newest e past)) true (received_subscription e.note)
  asked-newest i = ap (λ b. asked_by i (position (newest e past)) b (codes_in (e ∷ past) (newest e past)) (received_subscription e.note)) (eq-eqb (begun (e ∷ past)) (number (newest e past)) refl) ∙ go (received_subscription e.note)
    where
      whole : (b : Bool) (r : Unsettled) → only (b && true) (Some r) ≡ only b (Some r)
      whole true r = refl
      whole false r = refl

      go : (o : Option Subscription) → asked_by i (position (newest e past)) true (codes_in (e ∷ past) (newest e past)) o ≡ asks_under i (position (newest e past)) true o
      go None = refl
      go (Some s) =
          ap (λ c. only ((i == s.identifier) && is_none c) (Some (unsettled (position (newest e past)) s))) (codes-newest s.identifier e past)
          ∙ whole (i == s.identifier) (unsettled (position (newest e past)) s)

-- ---- all that wait, by identifiers

both-ways : (a b : Bool) → (a ≡ true → b ≡ true) → (b ≡ true → a ≡ true) → a ≡ b
both-ways true true f g = refl
both-ways true false f g = sym (f refl)
both-ways false true f g = g refl
both-ways false false f g = refl

module _ (q : Unsettled → Bool) where
  absent : (i : ℕ) (es : List (ℕ × List Unsettled)) → AllByRecursion (λ k. nat_eq i k ≡ false) (keys_of es) → lookup (nat_eq i) es ≡ None
  absent i [] h = refl
  absent i (e ∷ es) h = ap (λ b. cond b (Some e.1) (lookup (nat_eq i) es)) h.0 ∙ absent i es h.1

  -- a value that passes stands under some identifier, and the other way round
  some-key : (es : List (ℕ × List Unsettled)) → IsDistinct nat_eq (keys_of es) → list_any (λ v. list_any q v) (values_of es) ≡ true → (i : ℕ) × (list_any q (unwrap_or (lookup (nat_eq i) es) []) ≡ true)
  unfolding IsDistinct
  some-key [] apart h = absurd (cc)
  some-key (e ∷ es) apart h = go (list_any q e.1) refl (some-key es apart.1) h
    where
      go : (b : Bool) → list_any q e.1 ≡ b → (list_any (λ v. list_any q v) (values_of es) ≡ true → (i : ℕ) × (list_any q (unwrap_or (lookup (nat_eq i) es) []) ≡ true)) → (b || list_any (λ v. list_any q v) (values_of es)) ≡ true → (i : ℕ) × (list_any q (unwrap_or (cond (nat_eq i e.0) (Some e.1) (lookup (nat_eq i) es)) []) ≡ true)
      go true n next h = (e.0, ap (λ b. list_any q (unwrap_or (cond b (Some e.1) (lookup (nat_eq e.0) es)) [])) (eq-eqb e.0 e.0 refl) ∙ n)
      go false n next h = let rest = next h in (rest.0, at rest.0 (nat_eq rest.0 e.0) refl rest.1)
        where
          at : (i : ℕ) (b : Bool) → nat_eq i e.0 ≡ b → list_any q (unwrap_or (lookup (nat_eq i) es) []) ≡ true → list_any q (unwrap_or (cond b (Some e.1) (lookup (nat_eq i) es)) []) ≡ true
          at i true m found =
              let same : i ≡ e.0 = eqb-true i e.0 m in
              let none : lookup (nat_eq i) es ≡ None = ap (λ k. lookup (nat_eq k) es) same ∙ absent e.0 es apart.0 in
              let bad : list_any q (unwrap_or (lookup (nat_eq i) es) []) ≡ false = ap (λ o. list_any q (unwrap_or o [])) none in
              absurd (cc)
          at i false m found = found

  key-some : (i : ℕ) (es : List (ℕ × List Unsettled)) → list_any q (unwrap_or (lookup (nat_eq i) es) []) ≡ true → list_any (λ v. list_any q v) (values_of es) ≡ true
  key-some i [] h = absurd (cc)
  key-some i (e ∷ es) h = go (nat_eq i e.0) (key-some i es) h
    where
      left : (a b : Bool) → a ≡ true → (a || b) ≡ true
      left true b h = refl
      left false b h = absurd (cc)

      right : (a b : Bool) → b ≡ true → (a || b) ≡ true
      right true b h = refl
      right false b h = h

      go : (b : Bool) → (list_any q (unwrap_or (lookup (nat_eq i) es) []) ≡ true → list_any (λ v. list_any q v) (values_of es) ≡ true) → list_any q (unwrap_or (cond b (Some e.1) (lookup (nat_eq i) es)) []) ≡ true → (list_any q e.1 || list_any (λ v. list_any q v) (values_of es)) ≡ true
      go true next h = left (list_any q e.1) (list_any (λ v. list_any q v) (values_of es)) h
      go false next h = right (list_any q e.1) (list_any (λ v. list_any q v) (values_of es)) (next h)

  key-one : (i at : ℕ) (here : Bool) (codes : ℕ → Option (List ℕ)) (o : Option Subscription) → list_any q (cons_option (asked_by i at here codes o) []) ≡ true → any_asked q at here codes o ≡ true
  key-one i at here codes None h = absurd (cc)
  key-one i at here codes (Some s) h = go (i == s.identifier) (here && is_none (codes s.identifier)) h
    where
      go : (b w : Bool) → list_any q (cons_option (only (b && w) (Some (unsettled at s))) []) ≡ true → (w && q (unsettled at s)) ≡ true
      go true true h = sym (or_false (q (unsettled at s))) ∙ h
      go true false h = absurd (cc)
      go false w h = absurd (cc)

  one-key : (at : ℕ) (here : Bool) (codes : ℕ → Option (List ℕ)) (o : Option Subscription) → any_asked q at here codes o ≡ true → (i : ℕ) × (list_any q (cons_option (asked_by i at here codes o) []) ≡ true)
  one-key at here codes None h = absurd (cc)
  one-key at here codes (Some s) h = (
    s.identifier,
    ap (λ b. list_any q (cons_option (only (b && (here && is_none (codes s.identifier))) (Some (unsettled at s))) [])) (eq-eqb s.identifier s.identifier refl) ∙ go (here && is_none (codes s.identifier)) h,
  )
    where
      go : (w : Bool) → (w && q (unsettled at s)) ≡ true → list_any q (cons_option (only w (Some (unsettled at s))) []) ≡ true
      go true h = or_false (q (unsettled at s)) ∙ h
      go false h = absurd (cc)

  key-asked : (i : ℕ) (past : List Seen) (ms : List Moment) → list_any q (asked_under i past ms) ≡ true → some (asks_in q past) ms ≡ true
  key-asked i past [] h = absurd (cc)
  key-asked i past (j ∷ js) h = go (list_any q (asked_under i past js)) refl (key-asked i past js) (sym (list_any-append q (asked_under i past js) (cons_option (asked_in i past j) [])) ∙ h)
    where
      right : (a b : Bool) → b ≡ true → (a || b) ≡ true
      right true b h = refl
      right false b h = h

      go : (b : Bool) → list_any q (asked_under i past js) ≡ b → (list_any q (asked_under i past js) ≡ true → some (asks_in q past) js ≡ true) → (b || list_any q (cons_option (asked_in i past j) [])) ≡ true → (asks_in q past j || some (asks_in q past) js) ≡ true
      go true n next h = right (asks_in q past j) (some (asks_in q past) js) (next n)
      go false n next h = ap (λ b. b || some (asks_in q past) js) (key-one i (position j) (begun past == number j) (codes_in past j) (received_subscription (note j)) h)

  asked-key : (past : List Seen) (ms : List Moment) → some (asks_in q past) ms ≡ true → (i : ℕ) × (list_any q (asked_under i past ms) ≡ true)
  asked-key past [] h = absurd (cc)
  asked-key past (j ∷ js) h = go (asks_in q past j) refl (asked-key past js) h
    where
      right : (a b : Bool) → b ≡ true → (a || b) ≡ true
      right true b h = refl
      right false b h = h

      go : (b : Bool) → asks_in q past j ≡ b → (some (asks_in q past) js ≡ true → (i : ℕ) × (list_any q (asked_under i past js) ≡ true)) → (b || some (asks_in q past) js) ≡ true → (i : ℕ) × (list_any q (asked_under i past (j ∷ js)) ≡ true)
      go true n next h =
          let k = one-key (position j) (begun past == number j) (codes_in past j) (received_subscription (note j)) n in
          (k.0, list_any-append q (asked_under k.0 past js) (cons_option (asked_in k.0 past j) []) ∙ right (list_any q (asked_under k.0 past js)) (list_any q (cons_option (asked_in k.0 past j) [])) k.1)
      go false n next h =
          let k = next h in
          (k.0, list_any-append q (asked_under k.0 past js) (cons_option (asked_in k.0 past j) []) ∙ ap (λ b. b || list_any q (cons_option (asked_in k.0 past j) [])) k.1)

  pub values-are : (es : List (ℕ × List Unsettled)) (past : List Seen) (ms : List Moment) → IsDistinct nat_eq (keys_of es) → ((i : ℕ) → unwrap_or (lookup (nat_eq i) es) [] ≡ asked_under i past ms)
      → list_any (λ v. list_any q v) (values_of es) ≡ some (asks_in q past) ms
  values-are es past ms apart are = both-ways (list_any (λ v. list_any q v) (values_of es)) (some (asks_in q past) ms)
      (λ h. let k = some-key es apart h in key-asked k.0 past ms (ap (list_any q) (sym (are k.0)) ∙ k.1))
      (λ h. let k = asked-key past ms h in key-some k.0 es (ap (list_any q) (are k.0) ∙ k.1))

-- ---- all that is kept, with one event more

module _ (e : Seen) (past : List Seen) (ms : List Moment) (begins inside : Bool) (within : Before e past ms) where
  abbrev held : List Moment
  held = cond begins [] ms

  held-before : Before e past held
  held-before = go begins
    where
      go : (b : Bool) → Before e past (cond b [] ms)
      go true = λ j a. absurd a
      go false = within

  kept-asked : (w v : ℕ → List Unsettled) → ((i : ℕ) → w i ≡ asked_under i past ms) → ((i : ℕ) → v i ≡ cond (begins || is_open e.note) [] (w i)) → is_open e.note ≡ false → (i : ℕ) → v i ≡ asked_under i past held
  kept-asked w v waited emptied h i = emptied i ∙ ap (λ o. cond (begins || o) [] (w i)) h ∙ ap (cond (begins || false) []) (waited i) ∙ go begins
    where
      go : (b : Bool) → cond (b || false) [] (asked_under i past ms) ≡ asked_under i past (cond b [] ms)
      go true = refl
      go false = refl

  pub settled-next : (t : ℕ → Standing → Bool) (a b c : Bool) (w v : ℕ → List Unsettled) → a ≡ some (λ j. list_any (t (position j)) (settled_in past j)) ms → ((i : ℕ) → w i ≡ asked_under i past ms)
      → b ≡ cond begins false (a || (is_open e.note && some (asks_in (λ r. list_any (t r.position) r.filters) past) ms)) → ((i : ℕ) → v i ≡ cond (begins || is_open e.note) [] (w i)) → c ≡ (b || settles t (sent_grant e.note) v)
      → c ≡ some (λ j. list_any (t (position j)) (settled_in (e ∷ past) j)) (longer begins inside (newest e past) ms)
  settled-next t a b c w v was waited begun emptied grown = grown ∙ first (is_open e.note) refl ∙ last inside
    where
      start : b ≡ (some (λ j. list_any (t (position j)) (settled_in past j)) held || (is_open e.note && some (asks_in (λ r. list_any (t r.position) r.filters) past) held))
      start = begun ∙ ap (λ x. cond begins false (x || (is_open e.note && some (asks_in (λ r. list_any (t r.position) r.filters) past) ms))) was ∙ go begins (is_open e.note)
        where
          go : (b o : Bool) → cond b false (some (λ j. list_any (t (position j)) (settled_in past j)) ms || (o && some (asks_in (λ r. list_any (t r.position) r.filters) past) ms)) ≡ (some (λ j. list_any (t (position j)) (settled_in past j)) (cond b [] ms) || (o && some (asks_in (λ r. list_any (t r.position) r.filters) past) (cond b [] ms)))
          go true true = refl
          go true false = refl
          go false o = refl

      first : (o : Bool) → is_open e.note ≡ o → (b || settles t (sent_grant e.note) v) ≡ some (λ j. list_any (t (position j)) (settled_in (e ∷ past) j)) held
      first true h =
          ap (λ g. b || settles t g v) (open-grants e.note h) ∙ or_false b
          ∙ start
          ∙ ap (λ o. some (λ j. list_any (t (position j)) (settled_in past j)) held || (o && some (asks_in (λ r. list_any (t r.position) r.filters) past) held)) h
          ∙ sym (settled-opens e past t held held-before h)
      first false h =
          ap (λ x. x || settles t (sent_grant e.note) v) (start ∙ ap (λ o. some (λ j. list_any (t (position j)) (settled_in past j)) held || (o && some (asks_in (λ r. list_any (t r.position) r.filters) past) held)) h ∙ or_false (some (λ j. list_any (t (position j)) (settled_in past j)) held))
          ∙ ap (λ x. some (λ j. list_any (t (position j)) (settled_in past j)) held || x) (settles-alike t (sent_grant e.note) v (λ i. asked_under i past held) (kept-asked w v waited emptied h))
          ∙ sym (settled-goes e past t held held-before h)

      last : (b : Bool) → some (λ j. list_any (t (position j)) (settled_in (e ∷ past) j)) held ≡ some (λ j. list_any (t (position j)) (settled_in (e ∷ past) j)) (with_first b (newest e past) held)
      last true = ap (λ b. b || some (λ j. list_any (t (position j)) (settled_in (e ∷ past) j)) held) (sym (settled-newest e past t))
      last false = refl

  pub asked-next : (w v u x : ℕ → List Unsettled) → ((i : ℕ) → w i ≡ asked_under i past ms) → ((i : ℕ) → v i ≡ cond (begins || is_open e.note) [] (w i))
      → ((i : ℕ) → u i ≡ cond (answers i (sent_grant e.note)) [] (v i)) → ((i : ℕ) → x i ≡ u i ++ cons_option (asks_under i (position (newest e past)) inside (received_subscription e.note)) [])
      → (i : ℕ) → x i ≡ asked_under i (e ∷ past) (longer begins inside (newest e past) ms)
  asked-next w v u x waited emptied answered asked-some i =
      asked-some i ∙ ap (λ y. y ++ cons_option (asks_under i (position (newest e past)) inside (received_subscription e.note)) []) (answered i ∙ left (is_open e.note) refl) ∙ last inside
    where
      none : (b : Bool) → ◌≡◌ {A = List Unsettled} (cond b [] []) []
      none true = refl
      none false = refl

      left : (o : Bool) → is_open e.note ≡ o → cond (answers i (sent_grant e.note)) [] (v i) ≡ asked_under i (e ∷ past) held
      left true h =
          ap (cond (answers i (sent_grant e.note)) []) (emptied i ∙ ap (λ o. cond (begins || o) [] (w i)) h ∙ all begins)
          ∙ none (answers i (sent_grant e.note))
          ∙ sym (asked-opens e past i held held-before h)
        where
          all : (b : Bool) → cond (b || true) [] (w i) ≡ []
          all true = refl
          all false = refl
      left false h = ap (cond (answers i (sent_grant e.note)) []) (kept-asked w v waited emptied h i) ∙ sym (asked-goes e past i held held-before h)

      last : (b : Bool) → asked_under i (e ∷ past) held ++ cons_option (asks_under i (position (newest e past)) b (received_subscription e.note)) [] ≡ asked_under i (e ∷ past) (with_first b (newest e past) held)
      last true = ap (λ o. asked_under i (e ∷ past) held ++ cons_option o []) (sym (asked-newest e past i))
      last false = append-nil (asked_under i (e ∷ past) held)

-- ---- the greatest

standing-some : (t : Standing → Bool) (k : Moment) (ms : List Moment) → list_any t (standing_of k ms) ≡ some (λ j. list_any t (standing_from k j)) ms
standing-some t k [] = refl
standing-some t k (j ∷ js) = list_any-append t (standing_from k j) (standing_of k js) ∙ ap (λ b. list_any t (standing_from k j) || b) (standing-some t k js)

-- what is kept is what stands
standing-kept : (t : ℕ → Standing → Bool) (k : Moment) (ms : List Moment)
    → some (λ j. list_any (t (position j)) (standing_from k j)) ms ≡ (some (λ j. list_any (t (position j)) (settled_in k.past j)) ms || some (asks_in (λ r. list_any (t r.position) r.filters) k.past) ms)
standing-kept t k ms = either-of (λ j. list_any (t (position j)) (standing_from k j)) (λ j. list_any (t (position j)) (settled_in k.past j)) (asks_in (λ r. list_any (t r.position) r.filters) k.past) ms (λ j a.
    standing-parts t (position j) (begun k.past == number j) (codes_in k.past j) (received_subscription (note j)))

has-greatest : (q : ℕ) (topic : List ℕ) (ss : List Standing) → has_ceiling (nat_le q) (greatest_for topic ss) ≡ list_any (λ s. matches s.filter topic && nat_le q s.ceiling) ss
has-greatest q topic [] = refl
has-greatest q topic (s ∷ ss) = go (matches s.filter topic) (greatest_for topic ss) (has-greatest q topic ss)
  where
    low : (c : ℕ) → has_ceiling (nat_le q) (Some (cond (nat_lt c 0) 0 c)) ≡ (nat_le q c || false)
    low c = ap (λ b. nat_le q (cond b 0 c)) least ∙ sym (or_false (nat_le q c))
      where
        least : nat_lt c 0 ≡ false
        least = grind (arith, nat_tests)

    high : (c g : ℕ) (b : Bool) → nat_lt c g ≡ b → nat_le q (cond b g c) ≡ (nat_le q c || nat_le q g)
    high c g true h = below (nat_le q c) refl
      where
        below : (b : Bool) → nat_le q c ≡ b → nat_le q g ≡ (b || nat_le q g)
        below true k = grind (arith, nat_tests)
        below false k = refl
    high c g false h = above (nat_le q c) refl
      where
        none : nat_le q c ≡ false → nat_le q g ≡ false
        none k = grind (arith, nat_tests)

        above : (b : Bool) → nat_le q c ≡ b → b ≡ (b || nat_le q g)
        above true k = refl
        above false k = sym (none k)

    go : (b : Bool) (g : Option ℕ) → has_ceiling (nat_le q) g ≡ list_any (λ s. matches s.filter topic && nat_le q s.ceiling) ss
        → has_ceiling (nat_le q) (cond b (Some (cond (nat_lt s.ceiling (unwrap_or g 0)) (unwrap_or g 0) s.ceiling)) g) ≡ ((b && nat_le q s.ceiling) || list_any (λ s. matches s.filter topic && nat_le q s.ceiling) ss)
    go false g h = h
    go true None h = low s.ceiling ∙ ap (λ b. nat_le q s.ceiling || b) h
    go true (Some g) h = high s.ceiling g (nat_lt s.ceiling g) refl ∙ ap (λ b. nat_le q s.ceiling || b) h

pub same-ceiling : (a b : Option ℕ) → ((q : ℕ) → has_ceiling (nat_le q) a ≡ has_ceiling (nat_le q) b) → a ≡ b
same-ceiling None None h = refl
same-ceiling None (Some b) h = let bad : false ≡ nat_le 0 b = h 0 in absurd (grind (arith, nat_tests))
same-ceiling (Some a) None h = let bad : nat_le 0 a ≡ false = h 0 in absurd (grind (arith, nat_tests))
same-ceiling (Some a) (Some b) h = ap Some (both (h a) (h b))
  where
    both : nat_le a a ≡ nat_le a b → nat_le b a ≡ nat_le b b → a ≡ b
    both p r = grind (arith, nat_tests)

module _ (topic : List ℕ) (q : ℕ) (k : Moment) (ms : List Moment) where
  -- what allows just what the filters that stand do is the greatest
  pub greatest-kept : list_any (λ s. matches s.filter topic && nat_le q s.ceiling) (standing_of k ms)
      ≡ (some (λ j. list_any (λ s. matches s.filter topic && nat_le q s.ceiling) (settled_in k.past j)) ms || some (asks_in (λ r. list_any (λ s. matches s.filter topic && nat_le q s.ceiling) r.filters) k.past) ms)
  greatest-kept =
      standing-some (λ s. matches s.filter topic && nat_le q s.ceiling) k ms ∙ standing-kept (λ at s. matches s.filter topic && nat_le q s.ceiling) k ms

pub greatest-is : (topic : List ℕ) (ss : List Standing) (o : Option ℕ) → ((q : ℕ) → has_ceiling (nat_le q) o ≡ list_any (λ s. matches s.filter topic && nat_le q s.ceiling) ss) → o ≡ greatest_for topic ss
greatest-is topic ss o h = same-ceiling o (greatest_for topic ss) (λ q. h q ∙ sym (has-greatest q topic ss))

-- ---- the last

-- the later one of two positions is as late as one of them
pub later-has : (q : ℕ) (a b : Option ℕ) → has_ceiling (nat_le q) (later_at a b) ≡ (has_ceiling (nat_le q) a || has_ceiling (nat_le q) b)
later-has q None None = refl
later-has q None (Some b) = refl
later-has q (Some a) None = sym (or_false (nat_le q a))
later-has q (Some a) (Some b) = go (nat_lt b a) refl
  where
    go : (l : Bool) → nat_lt b a ≡ l → has_ceiling (nat_le q) (cond l (Some a) (Some b)) ≡ (nat_le q a || nat_le q b)
    go true h = low (nat_le q a) refl
      where
        none : nat_le q a ≡ false → nat_le q b ≡ false
        none n = grind (arith, nat_tests)

        low : (l : Bool) → nat_le q a ≡ l → l ≡ (l || nat_le q b)
        low true n = refl
        low false n = sym (none n)
    go false h = high (nat_le q a) refl
      where
        high : (l : Bool) → nat_le q a ≡ l → nat_le q b ≡ (l || nat_le q b)
        high true n = grind (arith, nat_tests)
        high false n = refl

-- a test that doesn't depend on the filter
pub any-beside : (test : Standing → Bool) (b : Bool) (ss : List Standing) → list_any (λ s. test s && b) ss ≡ (list_any test ss && b)
any-beside test b [] = refl
any-beside test b (s ∷ ss) = ap (λ x. (test s && b) || x) (any-beside test b ss) ∙ go (test s) (list_any test ss) b
  where
    go : (x y b : Bool) → ((x && b) || (y && b)) ≡ ((x || y) && b)
    go true true true = refl
    go true true false = refl
    go true false true = refl
    go true false false = refl
    go false y b = refl

-- the latest moment that passes a test is at this position or after it if some moment that passes is
pub latest-has : (test : Moment → Bool) (q : ℕ) (ms : List Moment) → IsDescending ms → has_ceiling (nat_le q) (option_map position (latest test ms)) ≡ some (λ j. test j && nat_le q (position j)) ms
latest-has test q [] d = refl
latest-has test q (m ∷ ms) d = go (test m) (latest-has test q ms d.1)
  where
    below : (ns : List Moment) → ((n : Moment) → Among n ns → position n < position m) → nat_le q (position m) ≡ false → some (λ j. test j && nat_le q (position j)) ns ≡ false
    below [] all low = refl
    below (n ∷ ns) all low = ap (λ b. (test n && b) || some (λ j. test j && nat_le q (position j)) ns) lower ∙ none (test n) ∙ below ns (λ k a. all k (inr a)) low
      where
        before : position n < position m
        before = all n (inl refl)

        lower : nat_le q (position n) ≡ false
        lower = let less : length n.past < length m.past = omega (arith, before) in grind (arith, nat_tests)

        none : (b : Bool) → ((b && false) || some (λ j. test j && nat_le q (position j)) ns) ≡ some (λ j. test j && nat_le q (position j)) ns
        none true = refl
        none false = refl

    go : (b : Bool) → has_ceiling (nat_le q) (option_map position (latest test ms)) ≡ some (λ j. test j && nat_le q (position j)) ms
        → has_ceiling (nat_le q) (option_map position (cond b (Some m) (latest test ms))) ≡ ((b && nat_le q (position m)) || some (λ j. test j && nat_le q (position j)) ms)
    go false rest = rest
    go true rest = here (nat_le q (position m)) refl
      where
        here : (b : Bool) → nat_le q (position m) ≡ b → b ≡ (b || some (λ j. test j && nat_le q (position j)) ms)
        here true n = refl
        here false n = sym (below ms d.0 n)

pub some-alike : (p q : Moment → Bool) (ms : List Moment) → ((j : Moment) → p j ≡ q j) → some p ms ≡ some q ms
some-alike p q [] h = refl
some-alike p q (m ∷ ms) h = ap (λ b. b || some p ms) (h m) ∙ ap (λ b. q m || b) (some-alike p q ms h)

-- what is as late as just what is kept of the filters that match is the last SUBSCRIBE of which one stands
pub last-is : (topic : List ℕ) (k : Moment) (ms : List Moment) (o : Option ℕ) → IsDescending ms
    → ((q : ℕ) → has_ceiling (nat_le q) o ≡ (some (λ j. list_any (λ s. matches s.filter topic && nat_le q (position j)) (settled_in k.past j)) ms
    || some (asks_in (λ r. list_any (λ s. matches s.filter topic && nat_le q r.position) r.filters) k.past) ms))
    → o ≡ option_map position (latest (λ j. list_any (λ s. matches s.filter topic) (standing_from k j)) ms)
last-is topic k ms o d h = same-ceiling o (option_map position (latest matching ms)) (λ q.
    h q
    ∙ sym (standing-kept (λ at s. matches s.filter topic && nat_le q at) k ms)
    ∙ some-alike (λ j. list_any (λ s. matches s.filter topic && nat_le q (position j)) (standing_from k j)) (λ j. matching j && nat_le q (position j)) ms (λ j. any-beside (λ s. matches s.filter topic) (nat_le q (position j)) (standing_from k j))
    ∙ sym (latest-has matching q ms d))
  where
    matching : Moment → Bool
    matching j = list_any (λ s. matches s.filter topic) (standing_from k j)

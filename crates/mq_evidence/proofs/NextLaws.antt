-- Where the next fault is that will be explained, and which of these faults need Topic Filters.
use Rattle.std.proofs.Common.{◌≡◌, ℕ, ◌+◌, ◌<◌, ◌≤◌, ◌==◌, Bool, true, false, cond, ◌&&◌, ◌||◌, nat_eq, nat_le, nat_lt, arith, List, [], ◌∷◌, length, Option, Some, None, refl, ap, sym, subst, ◌∙◌}
use Rattle.std.specs.Prelude.{T, min}
use Rattle.std.specs.List.{list_any}
use Rattle.std.specs.FinMap.{entries, is_sorted, entries_sorted}
use Rattle.std.specs.FinMap.Entries.{below_all}
use Rattle.std.specs.Ordering.{is_lt, ordering_then}
use Rattle.std.specs.declared.cmp.Ordering.{Ordering}
use Rattle.std.specs.declared.cmp.Ordering.TheVariants.{Less, Equal, Greater}
use Rattle.mq_rules.specs.declared.fault.Fault.{Fault}
use Rattle.mq_rules.specs.declared.faults.FaultKey.{FaultKey}
use Rattle.mq_rules.specs.FaultKeys.{FaultMap, faults_at, first_from, key_cmp}
use Rattle.mq_rules.specs.Rules.{rule_cmp}
use Rattle.mq_evidence.specs.Trailing.{is_between, IsNext}

both_first : (a b : Bool) → T (a && b) → T a
both_first true b h = tt
both_first false b h = h

both_second : (a b : Bool) → T (a && b) → T b
both_second true b h = h
both_second false b h = absurd h

less_then : (a b : Bool) (o : Ordering) → T (is_lt (ordering_then (cond a Less (cond b Equal Greater)) o)) → T (a || b)
less_then true b o h = tt
less_then false true o h = tt
less_then false false o h = h

le_of : (a b : ℕ) → T (nat_lt a b || (nat_eq a b)) → nat_le a b ≡ true
le_of a b h = grind arith

-- a key that is before another one has no later position
before_positions : (x y : FaultKey) → T (is_lt (key_cmp x y)) → nat_le x.position y.position ≡ true
before_positions x y h = le_of x.position y.position (less_then (nat_lt x.position y.position) (nat_eq x.position y.position) (rule_cmp x.rule y.rule) h)

-- ---- the first fault after a position

not_between : (count next p : ℕ) → nat_le next p ≡ true → (nat_lt count p && nat_lt p next) ≡ false
not_between count next p h = grind arith

not_after : (count from next p : ℕ) → from ≤ count + 1 → nat_le from p ≡ false → (nat_lt count p && nat_lt p next) ≡ false
not_after count from next p le h = grind arith

least : (p : ℕ) → nat_le 0 p ≡ true
least p = grind arith

itself : (p : ℕ) → nat_le p p ≡ true
itself p = grind arith

-- no fault that comes after this key is before its position
none_before : (count : ℕ) (x : FaultKey) (es : List (FaultKey × Fault)) → T (below_all key_cmp x es) → list_any (is_between count x.position) es ≡ false
none_before count x [] s = refl
none_before count x (e ∷ es) s =
    ap (λ b. b || list_any (is_between count x.position) es) (not_between count x.position e.0.position (before_positions x e.0 (both_first _ _ s)))
    ∙ none_before count x es (both_second _ _ s)

-- nothing is between a position and the first fault after it; if there is none, nothing is after it
abbrev up_to_first : ℕ → Option ℕ → List (FaultKey × Fault) → Type 0
up_to_first count None es = (next : ℕ) → list_any (is_between count next) es ≡ false
up_to_first count (Some next) es = list_any (is_between count next) es ≡ false

first-step : (count from : ℕ) → from ≤ count + 1 → (e : FaultKey × Fault) (es : List (FaultKey × Fault)) (b : Bool) → nat_le from e.0.position ≡ b → T (below_all key_cmp e.0 es)
    → up_to_first count (first_from from es) es → up_to_first count (first_from from (e ∷ es)) (e ∷ es)
first-step count from le e es true is s rest = rw is
    (ap (λ b. b || list_any (is_between count e.0.position) es) (not_between count e.0.position e.0.position (itself e.0.position)) ∙ none_before count e.0 es s)
first-step count from le e es false is s rest = rw is (go (first_from from es) rest)
  where
    go : (o : Option ℕ) → up_to_first count o es → up_to_first count o (e ∷ es)
    go None h = λ next. ap (λ b. b || list_any (is_between count next) es) (not_after count from next e.0.position le is) ∙ h next
    go (Some next) h = ap (λ b. b || list_any (is_between count next) es) (not_after count from next e.0.position le is) ∙ h

first-of : (count from : ℕ) → from ≤ count + 1 → (es : List (FaultKey × Fault)) → T (is_sorted key_cmp es) → up_to_first count (first_from from es) es
first-of count from le [] s = λ next. refl
first-of count from le (e ∷ es) s = first-step count from le e es (nat_le from e.0.position) refl (both_first _ _ s) (first-of count from le es (both_second _ _ s))

pub next-found : (count from next : ℕ) (wanted : FaultMap) → from ≤ count + 1 → Some next ≡ first_from from (entries wanted) → IsNext wanted next count
next-found count from next wanted le is = subst (λ o. up_to_first count o (entries wanted)) (sym is) (first-of count from le (entries wanted) (entries_sorted wanted))

pub next-none : (count from next : ℕ) (wanted : FaultMap) → from ≤ count + 1 → None ≡ first_from from (entries wanted) → IsNext wanted next count
next-none count from next wanted le is = subst (λ o. up_to_first count o (entries wanted)) (sym is) (first-of count from le (entries wanted) (entries_sorted wanted)) next

-- a number that is one more, or the greatest that fits
pub one-more : (n m most : ℕ) → m ≡ min (n + 1) most → m ≤ n + 1
one-more n m most is = grind arith

-- nothing is before position 0
pub before-any : (wanted : FaultMap) (count : ℕ) → IsNext wanted 0 count
before-any wanted count = go (entries wanted)
  where
    go : (es : List (FaultKey × Fault)) → list_any (is_between count 0) es ≡ false
    go [] = refl
    go (e ∷ es) = ap (λ b. b || list_any (is_between count 0) es) (not_between count 0 e.0.position (least e.0.position)) ∙ go es

-- ---- one event more

later_too : (count next p : ℕ) → (nat_lt count p && nat_lt p next) ≡ false → (nat_lt (count + 1) p && nat_lt p next) ≡ false
later_too count next p h = grind arith

parts : (a b : Bool) → (a || b) ≡ false → (a ≡ false) × (b ≡ false)
parts true b h = absurd (cc)
parts false b h = (refl, h)

still : (count next : ℕ) (es : List (FaultKey × Fault)) → list_any (is_between count next) es ≡ false → list_any (is_between (count + 1) next) es ≡ false
still count next [] h = refl
still count next (e ∷ es) h =
    let p = parts (is_between count next e) (list_any (is_between count next) es) h in
    ap (λ b. b || list_any (is_between (count + 1) next) es) (later_too count next e.0.position p.0) ∙ still count next es p.1

-- what isn't before the next one after so many events isn't after one more
pub next-stays : (count next : ℕ) (wanted : FaultMap) → IsNext wanted next count → IsNext wanted next (count + 1)
next-stays count next wanted h = still count next (entries wanted) h

-- so many events, and one more
pub next-longer : (next : ℕ) (wanted : FaultMap) {A : Type 0} (e : A) (past : List A) → IsNext wanted next (length past + 1) → IsNext wanted next (length (e ∷ past))
next-longer next wanted e past h = subst (IsNext wanted next) same h
  where
    same : length past + 1 ≡ length (e ∷ past)
    same = omega arith

here : (count next p : ℕ) → p ≡ count + 1 → p < next → (nat_lt count p && nat_lt p next) ≡ true
here count next p is h = grind arith

nothing-here : (count next : ℕ) → count + 1 < next → (es : List (FaultKey × Fault)) → list_any (is_between count next) es ≡ false → faults_at (count + 1) es ≡ []
nothing-here count next h [] none = refl
nothing-here count next h (e ∷ es) none = go (e.0.position == count + 1) refl (nothing-here count next h es (parts (is_between count next e) (list_any (is_between count next) es) none).1)
  where
    go : (b : Bool) → (e.0.position == count + 1) ≡ b → faults_at (count + 1) es ≡ [] → cond b (e ∷ faults_at (count + 1) es) (faults_at (count + 1) es) ≡ []
    go true is rest =
        let there = here count next e.0.position (same e.0.position (count + 1) is) (before e.0.position (count + 1) is h) in
        let not_there = (parts (is_between count next e) (list_any (is_between count next) es) none).0 in
        absurd (cc)
      where
        same : (p q : ℕ) → (p == q) ≡ true → p ≡ q
        same p q h = grind arith

        before : (p q : ℕ) → (p == q) ≡ true → q < next → p < next
        before p q h l = grind arith
    go false is rest = rest

-- before the next fault there is none with the next event
pub none-due : (count next : ℕ) (wanted : FaultMap) → count + 1 < next → IsNext wanted next count → faults_at (count + 1) (entries wanted) ≡ []
none-due count next wanted h none = nothing-here count next h (entries wanted) none

-- Whether a position is near to a fault, by the first fault that isn't too far before it.
use Rattle.std.proofs.Common.{◌≡◌, ℕ, ◌-◌, Bool, true, false, cond, ◌&&◌, ◌||◌, nat_le, nat_lt, nat_eq, arith, List, [], ◌∷◌, Option, Some, None, refl, sym, ap, ◌∙◌}
use Rattle.std.specs.Prelude.{T}
use Rattle.std.specs.FinMap as map
use Rattle.std.specs.FinMap.{is_sorted, entries_sorted}
use Rattle.std.specs.FinMap.Entries.{below_all}
use Rattle.std.specs.List.{list_any}
use Rattle.std.specs.Ordering.{is_lt, ordering_then}
use Rattle.std.specs.declared.cmp.Ordering.{Ordering}
use Rattle.std.specs.declared.cmp.Ordering.TheVariants.{Less, Equal, Greater}
use Rattle.mq_rules.specs.declared.fault.Fault.{Fault}
use Rattle.mq_rules.specs.declared.faults.FaultKey.{FaultKey}
use Rattle.mq_rules.specs.FaultKeys.{FaultMap, first_from, key_cmp}
use Rattle.mq_rules.specs.Rules.{rule_cmp}
use Rattle.mq_display.specs.Display.{is_near, is_within}

pub both_first : (a b : Bool) → T (a && b) → T a
both_first true b h = tt
both_first false b h = h

pub both_second : (a b : Bool) → T (a && b) → T b
both_second true b h = h
both_second false b h = absurd h

less_then : (a b : Bool) (o : Ordering) → T (is_lt (ordering_then (cond a Less (cond b Equal Greater)) o)) → T (a || b)
less_then true b o h = tt
less_then false true o h = tt
less_then false false o h = h

le_of : (a b : ℕ) → T (nat_lt a b || (nat_eq a b)) → nat_le a b ≡ true
le_of a b h = grind arith

-- a key that is before another one has no later position
pub before_positions : (x y : FaultKey) → T (is_lt (key_cmp x y)) → nat_le x.position y.position ≡ true
before_positions x y h = le_of x.position y.position (less_then (nat_lt x.position y.position) (nat_eq x.position y.position) (rule_cmp x.rule y.rule) h)

-- a first fault is at most so many positions after this one
abbrev pub is_close : ℕ → ℕ → Option ℕ → Bool
is_close count position None = false
is_close count position (Some first) = nat_le (first - position) count

near_here : (count n position : ℕ) → nat_le (position - count) n ≡ true → is_within count n position ≡ nat_le (n - position) count
near_here count n position h = grind arith

far_here : (count n position : ℕ) → nat_le (position - count) n ≡ false → is_within count n position ≡ false
far_here count n position h = grind arith

far_later : (count n m position : ℕ) → nat_le (position - count) n ≡ true → nat_le (n - position) count ≡ false → nat_le n m ≡ true → is_within count m position ≡ false
far_later count n m position h f l = grind arith

none_later : (count position : ℕ) (x : FaultKey) (es : List (FaultKey × Fault)) → nat_le (position - count) x.position ≡ true → nat_le (x.position - position) count ≡ false
    → T (below_all key_cmp x es) → list_any (λ (found : FaultKey × Fault). is_within count found.0.position position) es ≡ false
none_later count position x [] h f s = refl
none_later count position x (e ∷ es) h f s =
    ap (λ b. b || list_any (λ (found : FaultKey × Fault). is_within count found.0.position position) es)
    (far_later count x.position e.0.position position h f (before_positions x e.0 (both_first _ _ s)))
    ∙ none_later count position x es h f (both_second _ _ s)

here : (count position : ℕ) (e : FaultKey × Fault) (es : List (FaultKey × Fault)) (b : Bool) → nat_le (e.0.position - position) count ≡ b
    → nat_le (position - count) e.0.position ≡ true → T (below_all key_cmp e.0 es)
    → b ≡ (is_within count e.0.position position || list_any (λ (found : FaultKey × Fault). is_within count found.0.position position) es)
here count position e es true is h s =
    sym (ap (λ b. b || list_any (λ (found : FaultKey × Fault). is_within count found.0.position position) es) (near_here count e.0.position position h ∙ is))
here count position e es false is h s =
    sym (ap (λ b. b || list_any (λ (found : FaultKey × Fault). is_within count found.0.position position) es) (near_here count e.0.position position h ∙ is)
    ∙ none_later count position e.0 es h is s)

step : (count position : ℕ) (e : FaultKey × Fault) (es : List (FaultKey × Fault)) (b : Bool) → nat_le (position - count) e.0.position ≡ b → T (below_all key_cmp e.0 es)
    → is_close count position (first_from (position - count) es) ≡ list_any (λ (found : FaultKey × Fault). is_within count found.0.position position) es
    → is_close count position (first_from (position - count) (e ∷ es)) ≡ list_any (λ (found : FaultKey × Fault). is_within count found.0.position position) (e ∷ es)
step count position e es true is s rest = rw is (here count position e es (nat_le (e.0.position - position) count) refl is s)
step count position e es false is s rest = rw (is, far_here count e.0.position position is) rest

near_by_first : (count position : ℕ) (es : List (FaultKey × Fault)) → T (is_sorted key_cmp es)
    → is_close count position (first_from (position - count) es) ≡ list_any (λ (found : FaultKey × Fault). is_within count found.0.position position) es
near_by_first count position [] s = refl
near_by_first count position (e ∷ es) s =
    step count position e es (nat_le (position - count) e.0.position) refl (both_first _ _ s) (near_by_first count position es (both_second _ _ s))

-- whether a position is near to one of these faults
pub near_is : (count position : ℕ) (faults : FaultMap) → is_close count position (first_from (position - count) (map.entries faults)) ≡ is_near (Some count) (map.entries faults) position
near_is count position faults = near_by_first count position (map.entries faults) (entries_sorted faults)

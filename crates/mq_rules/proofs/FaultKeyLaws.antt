-- Keys of faults are in a total order, in which no two keys are equal, and a tree map is the finite map of its entries.
use Rattle.std.proofs.Common.{◌≡◌, ℕ, Bool, true, false, cond, not, ◌&&◌, ◌||◌, nat_le, nat_lt, arith, ap₂, List, [], ◌∷◌, length, Option, Some, None, refl, sym, ap, subst, ◌∙◌, ◌==◌, nat_eq}
use Rattle.std.specs.Prelude.{T, is_some, Result, Ok, Err, OnErr}
use Rattle.std.specs.declared.cmp.Ordering.{Ordering}
use Rattle.std.specs.declared.cmp.Ordering.TheVariants.{Less, Equal, Greater}
use Rattle.std.specs.Ordering.{is_eq, is_le, is_lt, eq_by_cmp, ordering_then}
use Rattle.std.specs.Cmp.{IsTotalOrder, eq_by_cmp_equiv}
use Rattle.std.specs.Prelude.{option_map}
use Rattle.std.specs.List.{AllByRecursion, filter, find as find_by}
use Rattle.std.specs.BTreeMap.Range.{range_contains, entries_between}
use Rattle.std.specs.declared.ops.Bound.TheVariants.{Included, Unbounded}
use Rattle.mq_rules.specs.declared.rule.Rule.TheVariants.{W01, K02}
use Rattle.std.specs.List.Sorted.{IsStrictlySortedBy}
use Rattle.std.specs.Map.{keys_of, lookup}
use Rattle.std.specs.BTreeMap.{is_at}
use Rattle.std.specs.FinMap.{get, insert, entries, len, from_entries, find, is_sorted, get-from_entries, get-insert, get_tied, same_map, entries-from_sorted, get-from_sorted, len-entries}
use Rattle.std.specs.FinMap.Entries.{below_all}
use Rattle.std.proofs.lemmas.Map.Lookups.{CmpEqualImpliesEq}
use Rattle.std.proofs.lemmas.Bool.{eqb-true}
use Rattle.std.proofs.Math.Bool.{and-true}
use Rattle.std.specs.Option.{option_or}
use denote.Enum.Bare.{same_true, sameb}
use Rattle.mq_rules.specs.contracts.rule.Rule.{the_type}
use Rattle.mq_rules.specs.contracts.faults.FaultKeyOrd.TheImpl.Laws as laws
use Rattle.mq_rules.specs.declared.rule.Rule.{Rule}
use Rattle.mq_rules.specs.declared.faults.FaultKey.{FaultKey}
use Rattle.mq_rules.specs.declared.fault.Fault.{Fault}
use Rattle.mq_log.specs.declared.place.Place3.{Place3}
use Rattle.mq_rules.specs.Rules.{rule_cmp, same_rule}
use Rattle.mq_rules.specs.FaultKeys.{key_cmp, FaultMap, fault_at, faults_at, first_from, with_fault, judged}

both_true : (a b : Bool) → (a && b) ≡ true → (a ≡ true) × (b ≡ true)
both_true true true e = (refl, refl)
both_true true false e = absurd (cc)
both_true false b e = absurd (cc)

and_false : (a : Bool) → (a && false) ≡ false
and_false true = refl
and_false false = refl

option_or-none : {A : Type 0} (o : Option A) → option_or o None ≡ o
option_or-none None = refl
option_or-none (Some a) = refl

pub keys_total : IsTotalOrder key_cmp
keys_total = laws.total-law

-- two keys compare alike where both parts are the same
pub ties : (x y : FaultKey) → (nat_eq x.position y.position && sameb the_type x.rule y.rule) ≡ is_eq (key_cmp x y)
ties = laws.matches_eq-law

-- keys that compare alike are one
pub exact_keys : CmpEqualImpliesEq key_cmp
exact_keys a b h =
    let parts : (nat_eq a.position b.position ≡ true) × (sameb the_type a.rule b.rule ≡ true) = both_true _ _ (ties a b ∙ ap is_eq h) in
    let position : a.position ≡ b.position = eqb-true a.position b.position parts.0 in
    let rule : a.rule ≡ b.rule = same_true the_type tt a.rule b.rule parts.1 in
    λ i. record { position = position i; rule = rule i }

both : (a b : Bool) → T a → T b → T (a && b)
both true true p q = tt
both true false p q = absurd q
both false b p q = absurd p

module _ {K X : Type 0} (R : K → K → Ordering) where
  below_each : (x : K) (es : List (K × X)) → AllByRecursion (λ y. R x y ≡ Less) (keys_of es) → T (below_all R x es)
  below_each x [] h = tt
  below_each x (e ∷ es) h = both _ _ (subst (λ r. T (is_lt r)) (sym h.0) tt) (below_each x es h.1)

  -- keys that strictly rise
  rising : (es : List (K × X)) → IsStrictlySortedBy R (keys_of es) → T (is_sorted R es)
  unfolding IsStrictlySortedBy
  rising [] h = tt
  rising (e ∷ es) h = both _ _ (below_each e.0 es h.0) (rising es h.1)

  pub find-lookup : (q : K) (es : List (K × X)) → find R q es ≡ lookup (is_at (R q)) es
  find-lookup q [] = refl
  find-lookup q (e ∷ es) = ap (cond (is_at (R q) e.0) (Some e.1)) (find-lookup q es)

-- what the finite map of these entries has at a key
pub get-entries_of : (es : List (FaultKey × Fault)) (q : FaultKey) → get (from_entries {R = key_cmp} es) q ≡ lookup (is_at (key_cmp q)) es
get-entries_of es q = get-from_entries keys_total es q ∙ find-lookup key_cmp q es

-- the finite map of entries in order has these entries
pub entries-of : (es : List (FaultKey × Fault)) → IsStrictlySortedBy key_cmp (keys_of es) → entries (from_entries {R = key_cmp} es) ≡ es
entries-of es s =
    let t : T (is_sorted key_cmp es) = rising key_cmp es s in
    ap entries (same_map keys_total exact_keys _ _ (λ q. get-from_entries keys_total es q ∙ sym (get-from_sorted key_cmp es q t))) ∙ entries-from_sorted key_cmp es t

pub len-of : (es : List (FaultKey × Fault)) → IsStrictlySortedBy key_cmp (keys_of es) → len (from_entries {R = key_cmp} es) ≡ length es
len-of es s = len-entries _ ∙ ap length (entries-of es s)

-- entries that differ at one key make maps that differ there
pub one_more : (es fs : List (FaultKey × Fault)) (m : FaultKey) (v : Fault) → ((q : FaultKey) → lookup (is_at (key_cmp q)) fs ≡ cond (is_at (key_cmp m) q) (Some v) (lookup (is_at (key_cmp q)) es)) → from_entries {R = key_cmp} fs ≡ insert (from_entries es) m v
one_more es fs m v h = same_map keys_total exact_keys _ _ (λ q.
    get-entries_of fs q ∙ h q ∙ ap (λ b. cond b (Some v) (lookup (is_at (key_cmp q)) es)) ((eq_by_cmp_equiv keys_total).symm m q)
    ∙ sym (get-insert keys_total (from_entries es) m v q ∙ ap (cond (eq_by_cmp key_cmp q m) (Some v)) (get-entries_of es q)))

-- a key that the faults have keeps its fault
pub with_fault-there : (m : FaultKey) (v : Fault) (faults : FaultMap) → is_some (get faults m) ≡ true → faults ≡ with_fault m v faults
with_fault-there m v faults h = ap (λ b. cond b faults (insert faults m v)) (sym h)

-- a key that they don't have takes the fault
pub with_fault-new : (m : FaultKey) (v : Fault) (faults : FaultMap) → is_some (get faults m) ≡ false → insert faults m v ≡ with_fault m v faults
with_fault-new m v faults h = ap (λ b. cond b faults (insert faults m v)) (sym h)

-- what holds, holds after an error
pub on_err : {A E : Type 0} (r : Result A E) (P : Type 0) → P → OnErr r P
on_err (Ok a) P p = tt
on_err (Err e) P p = p

pub equal_of : (o : Ordering) → is_eq o ≡ true → o ≡ Equal
equal_of Less h = absurd (cc)
equal_of Equal h = refl
equal_of Greater h = absurd (cc)

get-cond : (b : Bool) (m n : FaultMap) (q : FaultKey) → get (cond b m n) q ≡ cond b (get m q) (get n q)
get-cond true m n q = refl
get-cond false m n q = refl

alike : {A : Type 0} (b : Bool) (a : A) → cond b a a ≡ a
alike true a = refl
alike false a = refl

-- a fault that is added is found under its key, unless one was there, and under no other
pub fault_at-with_fault : (m : FaultMap) (p k : ℕ) (s r : Rule) (f : Fault) → fault_at (with_fault (record { position = p; rule = s }) f m) k r ≡ option_or (fault_at m k r) (cond ((k == p) && same_rule r s) (Some f) None)
fault_at-with_fault m p k s r f =
    get-cond (is_some (get m key)) m (insert m key f) q
    ∙ ap (cond (is_some (get m key)) (get m q)) (get-insert keys_total m key f q)
    ∙ go (eq_by_cmp key_cmp q key) refl (is_some (get m key)) refl
    ∙ ap (λ b. option_or (get m q) (cond b (Some f) None)) (sym (ties q key))
  where
    key : FaultKey
    key = record { position = p; rule = s }

    q : FaultKey
    q = record { position = k; rule = r }

    there : (o : Option Fault) (h : Bool) → is_some o ≡ h → cond h o (Some f) ≡ option_or o (Some f)
    there (Some x) true e = refl
    there (Some x) false e = absurd (cc)
    there None true e = absurd (cc)
    there None false e = refl

    go : (t : Bool) → eq_by_cmp key_cmp q key ≡ t → (h : Bool) → is_some (get m key) ≡ h → cond h (get m q) (cond t (Some f) (get m q)) ≡ option_or (get m q) (cond t (Some f) None)
    go true e h i = subst (λ (o : Option Fault). cond h o (Some f) ≡ option_or o (Some f)) (get_tied keys_total m q key (equal_of (key_cmp q key) e)) (there (get m key) h i)
    go false e h i = alike h (get m q) ∙ sym (option_or-none (get m q))

-- where the positions are one, what is found of them is one
pub same_told : (k p : ℕ) (b : Bool) (f : ℕ → Fault) → cond ((k == p) && b) (Some (f p)) None ≡ cond ((k == p) && b) (Some (f k)) None
same_told k p b f = go (k == p) refl
  where
    go : (t : Bool) → (k == p) ≡ t → cond (t && b) (Some (f p)) None ≡ cond (t && b) (Some (f k)) None
    go true e = ap (λ n. cond b (Some (f n)) None) (sym (eqb-true k p e))
    go false e = refl

pub fault_at-judged : (m : FaultMap) (b : Bool) (s r : Rule) (place : Place3) (k : ℕ) → fault_at (judged b s place m) k r
    ≡ option_or (fault_at m k r) (cond ((k == place.position) && (same_rule r s && b)) (Some (record { decided = k; record_no = place.record_no; offset = None })) None)
fault_at-judged m true s r place k =
    fault_at-with_fault m place.position k s r (record { decided = place.position; record_no = place.record_no; offset = None })
    ∙ ap (option_or (fault_at m k r)) (same_told k place.position (same_rule r s) (λ n. record { decided = n; record_no = place.record_no; offset = None })
    ∙ ap (λ b. cond ((k == place.position) && b) (Some (record { decided = k; record_no = place.record_no; offset = None })) None) (sym (and-true (same_rule r s))))
fault_at-judged m false s r place k =
    sym (option_or-none (fault_at m k r))
    ∙ ap (λ b. option_or (fault_at m k r) (cond b (Some (record { decided = k; record_no = place.record_no; offset = None })) None)) (sym (ap (λ b. (k == place.position) && b) (and_false (same_rule r s)) ∙ and_false (k == place.position)))

-- ---- the keys at a position, and from one on

-- W01 is the first statement
not_below_first : (r : Rule) → is_le (rule_cmp W01 r) ≡ true
not_below_first W01 = refl
not_below_first _ = refl

-- K02 is the last one
not_above_last : (r : Rule) → is_lt (rule_cmp K02 r) ≡ false
not_above_last W01 = refl
not_above_last _ = refl

le_then : (a b : Bool) (o : Ordering) → is_le o ≡ true → is_le (ordering_then (cond a Less (cond b Equal Greater)) o) ≡ (a || b)
le_then true b o h = refl
le_then false true o h = h
le_then false false o h = refl

lt_then : (a b : Bool) (o : Ordering) → is_lt o ≡ false → is_lt (ordering_then (cond a Less (cond b Equal Greater)) o) ≡ a
lt_then true b o h = refl
lt_then false true o h = h
lt_then false false o h = refl

le_or : (a b : ℕ) → (nat_lt a b || (a == b)) ≡ nat_le a b
le_or a b = grind arith

le_both : (a b : ℕ) → ((nat_lt a b || (a == b)) && not (nat_lt a b)) ≡ (b == a)
le_both a b = grind arith

-- a key is not before the first one at a position where its own isn't
pub from_key : (position : ℕ) (q : FaultKey) → is_le (key_cmp (record { position = position; rule = W01 }) q) ≡ nat_le position q.position
from_key position q = le_then (nat_lt position q.position) (position == q.position) (rule_cmp W01 q.rule) (not_below_first q.rule) ∙ le_or position q.position

-- it lies between the first and the last one at a position where it has that position
pub at_key : (position : ℕ) (q : FaultKey)
    → range_contains key_cmp (Included (record { position = position; rule = W01 })) (Included (record { position = position; rule = K02 })) q ≡ (q.position == position)
at_key position q =
    ap₂ (λ a b. a && not b) (le_then (nat_lt position q.position) (position == q.position) (rule_cmp W01 q.rule) (not_below_first q.rule))
    (lt_then (nat_lt position q.position) (position == q.position) (rule_cmp K02 q.rule) (not_above_last q.rule)) ∙ le_both position q.position

filter_alike : {A : Type 0} (p q : A → Bool) → ((x : A) → p x ≡ q x) → (xs : List A) → filter p xs ≡ filter q xs
filter_alike p q same [] = refl
filter_alike p q same (x ∷ xs) = ap₂ (λ b ys. cond b (x ∷ ys) ys) (same x) (filter_alike p q same xs)

pub at_entries : (position : ℕ) (es : List (FaultKey × Fault)) (first last : FaultKey)
    → first ≡ record { position = position; rule = W01 } → last ≡ record { position = position; rule = K02 }
    → entries_between key_cmp (Included first) (Included last) es ≡ faults_at position es
at_entries position es first last is_first is_last =
    ap₂ (λ a b. entries_between key_cmp (Included a) (Included b) es) is_first is_last
    ∙ filter_alike _ (λ found. found.0.position == position) (λ e. at_key position e.0) es

abbrev pub head : {A : Type 0} → List A → Option A
head [] = None
head (x ∷ xs) = Some x

head_of : {A : Type 0} (b : Bool) (x : A) (xs : List A) → head (cond b (x ∷ xs) xs) ≡ cond b (Some x) (head xs)
head_of true x xs = refl
head_of false x xs = refl

head_filter : {A : Type 0} (p q : A → Bool) → ((x : A) → p x ≡ q x) → (xs : List A) → head (filter p xs) ≡ find_by q xs
head_filter p q same [] = refl
head_filter p q same (x ∷ xs) = head_of (p x) x (filter p xs) ∙ ap₂ (λ b o. cond b (Some x) o) (same x) (head_filter p q same xs)

and_true : (b : Bool) → (b && true) ≡ b
and_true true = refl
and_true false = refl

-- the position of the first of these entries, if there is one
abbrev pub position_of_first : List (FaultKey × Fault) → Option ℕ
position_of_first es = option_map (λ found. found.0.position) (head es)

pub first_entry : (position : ℕ) (es rest : List (FaultKey × Fault)) → rest ≡ entries_between key_cmp (Included (record { position = position; rule = W01 })) Unbounded es
    → position_of_first rest ≡ first_from position es
first_entry position es rest is =
    ap position_of_first is
    ∙ ap (option_map (λ (found : FaultKey × Fault). found.0.position))
    (head_filter (λ e. range_contains key_cmp (Included (record { position = position; rule = W01 })) Unbounded e.0) (λ found. nat_le position found.0.position)
    (λ e. and_true _ ∙ from_key position e.0) es)

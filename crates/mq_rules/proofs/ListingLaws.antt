-- The list of a log's faults is that of the finite map that has them.
use Rattle.std.proofs.Common.{◌≡◌, ℕ, ◌+◌, ◌<◌, ◌≤◌, ◌==◌, Bool, true, false, cond, ◌&&◌, ◌||◌, List, [], ◌∷◌, ◌++◌, length, Option, Some, None, refl, sym, ap, subst, ◌∙◌, arith, zero, suc}
use Rattle.std.specs.Prelude.{T, option_map, ◌↔◌, Contains}
use Rattle.std.specs.declared.cmp.Ordering.{Ordering}
use Rattle.std.specs.declared.cmp.Ordering.TheVariants.{Less, Equal, Greater}
use Rattle.std.specs.Ordering.{is_lt, eq_by_cmp, ordering_then}
use Rattle.std.specs.Cmp.{nat_cmp_is, eq_by_cmp_equiv}
use Rattle.std.proofs.Math.Bool.{and-true}
use Rattle.std.specs.List.{cons_option, filter_map, flat_map, range_with_len, AllByRecursion}
use Rattle.std.specs.List.Sorted.{IsStrictlySortedBy}
use Rattle.std.specs.Map.{keys_of}
use Rattle.std.specs.FinMap.{entries, find, is_sorted, same_map, from_sorted, entries-from_sorted, get-from_sorted}
use Rattle.std.specs.FinMap.Entries.{below_all}
use Rattle.std.proofs.lemmas.Bool.{eqb-true, eq-eqb}
use Rattle.std.proofs.lemmas.Map.Keys.{IsDistinct-from_sorted}
use Rattle.std.proofs.lemmas.Map.Views.{Contains-from_lookup, lookup-from_Contains}
use Rattle.std.specs.Option.{option_or}
use denote.Enum.Bare.{same_true}
use Rattle.mq_rules.specs.contracts.rule.Rule.{the_type}
use Rattle.mq_rules.specs.declared.role.Tested.{Tested}
use Rattle.mq_rules.specs.declared.rule.Rule.{Rule}
use Rattle.mq_rules.specs.declared.note.Seen.{Seen}
use Rattle.mq_rules.specs.declared.fault.Fault.{Fault}
use Rattle.mq_rules.specs.declared.faults.FaultKey.{FaultKey}
use Rattle.mq_rules.specs.Moments.{newest, moment}
use Rattle.mq_rules.specs.Rules.{same_rule, all_rules}
use Rattle.mq_rules.specs.Faults.{fault_in, chosen_fault, listed_faults}
use Rattle.mq_rules.specs.FaultKeys.{key_cmp, FaultMap, fault_at}
use Rattle.mq_rules.proofs.BoolLaws.{differ, and_false, option_or-none}
use Rattle.mq_rules.proofs.FaultKeyLaws.{keys_total, exact_keys, ties, find-lookup, equal_of}
use Rattle.mq_rules.proofs.StepLaws.{moment-beyond}
use Rattle.mq_rules.proofs.DecidedLaws.{fault_in-nowhere}
use Rattle.mq_rules.proofs.RowLaws.{rule_cmp, rises, all_rise, has, rows_rise, rows_have}

abbrev Faulty : Type 0
Faulty = ℕ → Rule → Option Fault

abbrev key : ℕ → Rule → FaultKey
key k r = record { position = k; rule = r }

-- the faults at a position, of these statements
abbrev block : Faulty → ℕ → List Rule → List (FaultKey × Fault)
block g k rules = filter_map (λ rule. option_map (λ fault. (record { position = k; rule = rule }, fault)) (g k rule)) rules

-- the faults at this many positions from one on
abbrev blocks : Faulty → ℕ → ℕ → List (FaultKey × Fault)
blocks g j n = flat_map (λ k. block g k all_rules) (range_with_len j n)

both : (a b : Bool) → T a → T b → T (a && b)
both true true p q = tt
both true false p q = absurd q
both false b p q = absurd p

-- ---- in order

first : (a b : Bool) → T (a && b) → T a
first true b h = tt
first false b h = absurd h

second : (a b : Bool) → T (a && b) → T b
second true b h = h
second false b h = absurd h

below_later : (k j : ℕ) (r s : Rule) → k < j → T (is_lt (key_cmp (key k r) (key j s)))
below_later k j r s h = subst (λ (o : Ordering). T (is_lt (ordering_then o (rule_cmp r s)))) (nat_cmp_is k j Less h) tt

below_here : (k : ℕ) (r s : Rule) → T (is_lt (rule_cmp r s)) → T (is_lt (key_cmp (key k r) (key k s)))
below_here k r s h = subst (λ (o : Ordering). T (is_lt (ordering_then o (rule_cmp r s)))) (nat_cmp_is k k Equal refl) h

below-append : (x : FaultKey) (xs ys : List (FaultKey × Fault)) → T (below_all key_cmp x xs) → T (below_all key_cmp x ys) → T (below_all key_cmp x (xs ++ ys))
below-append x [] ys p q = q
below-append x (e ∷ xs) ys p q = both _ _ (first _ _ p) (below-append x xs ys (second _ _ p) q)

-- below a block of a later position
below_block : (g : Faulty) (k j : ℕ) (r : Rule) (rules : List Rule) → k < j → T (below_all key_cmp (key k r) (block g j rules))
below_block g k j r [] h = tt
below_block g k j r (s ∷ ss) h = go (g j s) (below_block g k j r ss h)
  where
    go : (o : Option Fault) → T (below_all key_cmp (key k r) (block g j ss)) → T (below_all key_cmp (key k r) (cons_option (option_map (λ fault. (key j s, fault)) o) (block g j ss)))
    go None rest = rest
    go (Some f) rest = both _ _ (below_later k j r s h) rest

below_blocks : (g : Faulty) (k j n : ℕ) (r : Rule) → k < j → T (below_all key_cmp (key k r) (blocks g j n))
below_blocks g k j zero r h = tt
below_blocks g k j (suc n) r h = below-append (key k r) (block g j all_rules) (blocks g (j + 1) n) (below_block g k j r all_rules h) (below_blocks g k (j + 1) n r (omega arith))

-- below the rest of its own block
below_rest : (g : Faulty) (k : ℕ) (r : Rule) (rules : List Rule) → T (rises r rules) → T (below_all key_cmp (key k r) (block g k rules))
below_rest g k r [] h = tt
below_rest g k r (s ∷ ss) h = go (g k s) (below_rest g k r ss (second _ _ h))
  where
    go : (o : Option Fault) → T (below_all key_cmp (key k r) (block g k ss)) → T (below_all key_cmp (key k r) (cons_option (option_map (λ fault. (key k s, fault)) o) (block g k ss)))
    go None rest = rest
    go (Some f) rest = both _ _ (below_here k r s (first _ _ h)) rest

sorted_block : (g : Faulty) (k : ℕ) (rules : List Rule) (ys : List (FaultKey × Fault)) → T (all_rise rules) → T (is_sorted key_cmp ys) → ((r : Rule) → T (below_all key_cmp (key k r) ys)) → T (is_sorted key_cmp (block g k rules ++ ys))
sorted_block g k [] ys h s below = s
sorted_block g k (r ∷ rules) ys h s below = go (g k r) (sorted_block g k rules ys (second _ _ h) s below)
  where
    go : (o : Option Fault) → T (is_sorted key_cmp (block g k rules ++ ys)) → T (is_sorted key_cmp (cons_option (option_map (λ fault. (key k r, fault)) o) (block g k rules) ++ ys))
    go None rest = rest
    go (Some f) rest = both _ _ (below-append (key k r) (block g k rules) ys (below_rest g k r rules (first _ _ h)) (below r)) rest

sorted_blocks : (g : Faulty) (j n : ℕ) → T (is_sorted key_cmp (blocks g j n))
sorted_blocks g j zero = tt
sorted_blocks g j (suc n) = sorted_block g j all_rules (blocks g (j + 1) n) rows_rise (sorted_blocks g (j + 1) n) (λ r. below_blocks g j (j + 1) n r (omega arith))

-- ---- what is found

find-block : (g : Faulty) (k : ℕ) (q : FaultKey) (rules : List Rule) (ys : List (FaultKey × Fault)) → find key_cmp q (block g k rules ++ ys) ≡ option_or (cond ((q.position == k) && has q.rule rules) (g k q.rule) None) (find key_cmp q ys)
find-block g k q [] ys = ap (λ b. option_or (cond b (g k q.rule) None) (find key_cmp q ys)) (sym (and_false (q.position == k)))
find-block g k q (s ∷ ss) ys = go (g k s) refl (find-block g k q ss ys)
  where
    rest : Option Fault
    rest = find key_cmp q ys

    none : (p t h : Bool) → g k s ≡ None → (t ≡ true → q.rule ≡ s) → option_or (cond (p && h) (g k q.rule) None) rest ≡ option_or (cond (p && (t || h)) (g k q.rule) None) rest
    none false t h e same = refl
    none true false h e same = refl
    none true true true e same = refl
    none true true false e same = ap (λ o. option_or o rest) (sym (ap (g k) (same refl) ∙ e))

    some : (p t h : Bool) (f : Fault) → g k s ≡ Some f → (t ≡ true → q.rule ≡ s) → cond (p && t) (Some f) (option_or (cond (p && h) (g k q.rule) None) rest) ≡ option_or (cond (p && (t || h)) (g k q.rule) None) rest
    some false t h f e same = refl
    some true false h f e same = refl
    some true true h f e same = ap (λ o. option_or o rest) (sym (ap (g k) (same refl) ∙ e))

    go : (o : Option Fault) → g k s ≡ o → find key_cmp q (block g k ss ++ ys) ≡ option_or (cond ((q.position == k) && has q.rule ss) (g k q.rule) None) rest
        → find key_cmp q (cons_option (option_map (λ fault. (key k s, fault)) o) (block g k ss) ++ ys) ≡ option_or (cond ((q.position == k) && (same_rule q.rule s || has q.rule ss)) (g k q.rule) None) rest
    go None e h = h ∙ none (q.position == k) (same_rule q.rule s) (has q.rule ss) e (same_true the_type tt q.rule s)
    go (Some f) e h =
        ap (λ b. cond b (Some f) (find key_cmp q (block g k ss ++ ys))) (sym (ties q (key k s)))
        ∙ ap (cond ((q.position == k) && same_rule q.rule s) (Some f)) h
        ∙ some (q.position == k) (same_rule q.rule s) (has q.rule ss) f e (same_true the_type tt q.rule s)

find-step : (g : Faulty) (j n : ℕ) (q : FaultKey) → find key_cmp q (blocks g j (suc n)) ≡ option_or (cond (q.position == j) (g j q.rule) None) (find key_cmp q (blocks g (j + 1) n))
find-step g j n q = find-block g j q all_rules (blocks g (j + 1) n) ∙ ap (λ b. option_or (cond b (g j q.rule) None) (find key_cmp q (blocks g (j + 1) n))) (ap (λ b. (q.position == j) && b) (rows_have q.rule) ∙ and-true (q.position == j))

find-early : (g : Faulty) (j n : ℕ) (q : FaultKey) → q.position < j → find key_cmp q (blocks g j n) ≡ None
find-early g j zero q h = refl
find-early g j (suc n) q h =
    let lt : q.position < j + 1 = omega arith in
    find-step g j n q ∙ ap (λ b. option_or (cond b (g j q.rule) None) (find key_cmp q (blocks g (j + 1) n))) (differ q.position j (λ e. omega arith)) ∙ find-early g (j + 1) n q lt

find-blocks : (g : Faulty) (j n : ℕ) (q : FaultKey) → j ≤ q.position → (j + n ≤ q.position → g q.position q.rule ≡ None) → find key_cmp q (blocks g j n) ≡ g q.position q.rule
find-blocks g j zero q h past = sym (past (omega arith))
find-blocks g j (suc n) q h past = find-step g j n q ∙ go (q.position == j) refl (λ le. find-blocks g (j + 1) n q le (λ l. past (omega arith)))
  where
    go : (b : Bool) → (q.position == j) ≡ b → (j + 1 ≤ q.position → find key_cmp q (blocks g (j + 1) n) ≡ g q.position q.rule) → option_or (cond b (g j q.rule) None) (find key_cmp q (blocks g (j + 1) n)) ≡ g q.position q.rule
    go true e rest =
        let at : q.position ≡ j = eqb-true q.position j e in
        let lt : q.position < j + 1 = omega arith in
        ap (option_or (g j q.rule)) (find-early g (j + 1) n q lt) ∙ option_or-none (g j q.rule) ∙ ap (λ k. g k q.rule) (sym at)
    go false e rest =
        let ne : q.position ≡ j → ⊥ = λ is. absurd (let t : (q.position == j) ≡ true = eq-eqb q.position j is in cc) in
        let le : j + 1 ≤ q.position = omega arith in
        rest le

-- ---- the list of a log

-- positions count from 1
moment-zero : (log : List Seen) → moment log 0 ≡ None
moment-zero [] = refl
moment-zero (e ∷ past) = ap (λ b. cond b (Some (newest e past)) (moment past 0)) (differ 0 (length past + 1) (λ q. omega arith)) ∙ moment-zero past

nowhere : (chosen : Rule → Bool) (tested : Tested) (log : List Seen) (k : ℕ) (rule : Rule) → moment log k ≡ None → chosen_fault chosen tested log k rule ≡ None
nowhere chosen tested log k rule h = go (chosen rule) (fault_in-nowhere tested log k rule h)
  where
    go : (b : Bool) → fault_in tested log k rule ≡ None → cond b (fault_in tested log k rule) None ≡ None
    go true none = none
    go false none = refl

pub listed-sorted : (chosen : Rule → Bool) (tested : Tested) (log : List Seen) → T (is_sorted key_cmp (listed_faults chosen tested log))
unfolding listed_faults
listed-sorted chosen tested log = sorted_blocks (chosen_fault chosen tested log) 1 (length log)

pub find-listed : (chosen : Rule → Bool) (tested : Tested) (log : List Seen) (q : FaultKey) → find key_cmp q (listed_faults chosen tested log) ≡ chosen_fault chosen tested log q.position q.rule
unfolding listed_faults
find-listed chosen tested log q = go (q.position == 0) refl
  where
    go : (b : Bool) → (q.position == 0) ≡ b → find key_cmp q (listed_faults chosen tested log) ≡ chosen_fault chosen tested log q.position q.rule
    go true e =
        let at : q.position ≡ 0 = eqb-true q.position 0 e in
        find-early (chosen_fault chosen tested log) 1 (length log) q (omega arith) ∙ sym (ap (λ k. chosen_fault chosen tested log k q.rule) at ∙ nowhere chosen tested log 0 q.rule (moment-zero log))
    go false e =
        let ne : q.position ≡ 0 → ⊥ = λ is. absurd (let t : (q.position == 0) ≡ true = eq-eqb q.position 0 is in cc) in
        find-blocks (chosen_fault chosen tested log) 1 (length log) q (omega arith) (λ l. nowhere chosen tested log q.position q.rule (moment-beyond log q.position (omega arith)))

-- faults that are those of a log have its list
pub entries-listed : (chosen : Rule → Bool) (tested : Tested) (log : List Seen) (faults : FaultMap) → ((k : ℕ) (rule : Rule) → fault_at faults k rule ≡ chosen_fault chosen tested log k rule) → entries faults ≡ listed_faults chosen tested log
entries-listed chosen tested log faults h =
    ap entries (same_map keys_total exact_keys faults (from_sorted (listed_faults chosen tested log)) (λ q. h q.position q.rule ∙ sym (get-from_sorted key_cmp (listed_faults chosen tested log) q (listed-sorted chosen tested log) ∙ find-listed chosen tested log q)))
    ∙ entries-from_sorted key_cmp (listed_faults chosen tested log) (listed-sorted chosen tested log)

less_of : (o : Ordering) → T (is_lt o) → o ≡ Less
less_of Less h = refl
less_of Equal h = absurd h
less_of Greater h = absurd h

each_below : (x : FaultKey) (es : List (FaultKey × Fault)) → T (below_all key_cmp x es) → AllByRecursion (λ y. key_cmp x y ≡ Less) (keys_of es)
each_below x [] h = tt
each_below x (e ∷ es) h = (less_of (key_cmp x e.0) (first _ _ h), each_below x es (second _ _ h))

strictly : (es : List (FaultKey × Fault)) → T (is_sorted key_cmp es) → IsStrictlySortedBy key_cmp (keys_of es)
unfolding IsStrictlySortedBy
strictly [] h = tt
strictly (e ∷ es) h = (each_below e.0 es (first _ _ h), strictly es (second _ _ h))

pub listed-ascends : (chosen : Rule → Bool) (tested : Tested) (log : List Seen) → IsStrictlySortedBy key_cmp (keys_of (listed_faults chosen tested log))
listed-ascends chosen tested log = strictly (listed_faults chosen tested log) (listed-sorted chosen tested log)

same_keys : (x y : FaultKey) → eq_by_cmp key_cmp x y ≡ true → x ≡ y
same_keys x y h = exact_keys x y (equal_of (key_cmp x y) h)

-- a fault is in the list exactly where it is the fault of its key
pub listed-there : (chosen : Rule → Bool) (tested : Tested) (log : List Seen) (m : FaultKey) (f : Fault) → Contains (listed_faults chosen tested log) (m, f) ↔ (chosen_fault chosen tested log m.position m.rule ≡ Some f)
listed-there chosen tested log m f = (
  (λ h. sym (sym (find-lookup key_cmp m (listed_faults chosen tested log)) ∙ find-listed chosen tested log m) ∙ lookup-from_Contains (eq_by_cmp_equiv keys_total) m f (listed_faults chosen tested log) (IsDistinct-from_sorted key_cmp (keys_of (listed_faults chosen tested log)) (listed-ascends chosen tested log)) h),
  (λ h. Contains-from_lookup same_keys m f (listed_faults chosen tested log) (sym (find-lookup key_cmp m (listed_faults chosen tested log)) ∙ find-listed chosen tested log m ∙ h)),
)

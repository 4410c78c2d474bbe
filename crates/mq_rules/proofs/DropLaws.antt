-- Faults of which those that were decided at a position are removed.
use Rattle.std.proofs.Common.{◌≡◌, ℕ, ◌+◌, ◌<◌, ◌≤◌, ◌==◌, not, T, Bool, true, false, cond, ◌&&◌, ◌⊎◌, inl, inr, List, [], ◌∷◌, length, Option, Some, None, refl, ap, sym, ◌∙◌, subst, arith}
use Rattle.std.specs.Prelude.{option_map}
use Rattle.std.specs.Option.{option_or}
use Rattle.std.specs.List.{filter}
use Rattle.std.specs.Cmp.{IsTotalOrder}
use Rattle.std.specs.Ordering.{is_eq, is_lt}
use Rattle.std.specs.declared.cmp.Ordering.{Ordering}
use Rattle.std.specs.declared.cmp.Ordering.TheVariants.{Less, Equal, Greater}
use Rattle.std.specs.FinMap.{entries, entries_sorted, get-entries}
use Rattle.std.specs.FinMap.Entries.{find, below_all, is_sorted}
use Rattle.std.proofs.lemmas.Bool.{eq-eqb, ne_eqb}
use Rattle.mq_rules.specs.declared.role.Tested.{Tested}
use Rattle.mq_rules.specs.declared.rule.Rule.{Rule}
use Rattle.mq_rules.specs.declared.fault.Fault.{Fault}
use Rattle.mq_rules.specs.declared.faults.FaultKey.{FaultKey}
use Rattle.mq_rules.specs.declared.note.Seen.{Seen}
use Rattle.mq_rules.specs.Moments.{moment}
use Rattle.mq_rules.specs.Statements.{fails}
use Rattle.mq_rules.specs.FaultKeys.{FaultMap, fault_at, key_cmp, decided_elsewhere}
use Rattle.mq_rules.specs.Faults.{decided, reported, fault_in}
use Rattle.mq_rules.specs.Growing.{added, GainsWithin}
use Rattle.mq_rules.proofs.DecidedLaws.{decided-within}
use Rattle.mq_rules.proofs.FaultKeyLaws.{keys_total}

-- a value, if it passes the test
abbrev pub passing : {X : Type 0} → (X → Bool) → Option X → Option X
passing t None = None
passing t (Some x) = cond (t x) (Some x) None

-- a fault was decided at another position
abbrev pub elsewhere : ℕ → Fault → Bool
elsewhere position f = not (f.decided == position)

first : (a b : Bool) → T (a && b) → T a
first true b p = tt
first false b p = p

second : (a b : Bool) → T (a && b) → T b
second true b p = p
second false b p = absurd p

is_less : (o : Ordering) → T (is_lt o) → o ≡ Less
is_less Less p = refl
is_less Equal p = absurd p
is_less Greater p = absurd p

is_equal : (o : Ordering) → is_eq o ≡ true → o ≡ Equal
is_equal Less h = absurd (cc)
is_equal Equal h = refl
is_equal Greater h = absurd (cc)

-- no key after one that ties does
tied-none : {K X : Type 0} (R : K → K → Ordering) → IsTotalOrder R → (q k : K) (es : List (K × X)) → R q k ≡ Equal → T (below_all R k es) → find R q es ≡ None
tied-none R o q k [] tie below = refl
tied-none R o q k (f ∷ es) tie below =
    let less : R q f.0 ≡ Less = o.congr q k f.0 tie ∙ is_less (R k f.0) (first _ _ below) in
    ap (λ r. cond (is_eq r) (Some f.1) (find R q es)) less ∙ tied-none R o q k es tie (second _ _ below)

-- what is found among the entries whose values pass a test
find-passing : {K X : Type 0} (R : K → K → Ordering) → IsTotalOrder R → (t : X → Bool) (q : K) (es : List (K × X)) → T (is_sorted R es)
    → find R q (filter (λ e. t e.1) es) ≡ passing t (find R q es)
find-passing R o t q [] sorted = refl
find-passing {K} {X} R o t q (e ∷ es) sorted = go (is_eq (R q e.0)) refl (t e.1) refl (find-passing R o t q es (second _ _ sorted))
  where
    go : (b : Bool) → is_eq (R q e.0) ≡ b → (c : Bool) → t e.1 ≡ c → find R q (filter (λ e. t e.1) es) ≡ passing t (find R q es)
        → find R q (cond (t e.1) (e ∷ filter (λ e. t e.1) es) (filter (λ e. t e.1) es)) ≡ passing t (cond (is_eq (R q e.0)) (Some e.1) (find R q es))
    go true tie true p rest = rw (tie, p) (ap (λ b. cond b (Some e.1) (find R q (filter (λ x. t x.1) es))) tie)
    go true tie false p rest = rw (tie, p) (rest ∙ ap (passing t) (tied-none R o q e.0 es (is_equal (R q e.0) tie) (first _ _ sorted)))
    go false tie true p rest = rw (tie, p) (ap (λ b. cond b (Some e.1) (find R q (filter (λ x. t x.1) es))) tie ∙ rest)
    go false tie false p rest = rw (tie, p) rest

-- a pair has the fault that it had, unless that was decided at the position
pub fault_at-dropped : (position : ℕ) (old new : FaultMap) → entries new ≡ decided_elsewhere position (entries old) → (k : ℕ) (r : Rule)
    → fault_at new k r ≡ passing (λ f. not (f.decided == position)) (fault_at old k r)
fault_at-dropped position old new e k r =
    let q : FaultKey = record { position = k; rule = r } in
    get-entries new q
    ∙ ap (find key_cmp q) e
    ∙ find-passing key_cmp keys_total (λ f. not (f.decided == position)) q (entries old) (entries_sorted old)
    ∙ ap (passing (λ f. not (f.decided == position))) (sym (get-entries old q))

-- the faults of some events were decided by then
past-passes : (tested : Tested) (past : List Seen) (position k : ℕ) (r : Rule) → length past < position
    → passing (λ f. not (f.decided == position)) (fault_in tested past k r) ≡ fault_in tested past k r
unfolding fault_in
past-passes tested past position k r later = go (fails tested past k r) (decided tested past k r) (λ n is. (decided-within tested past n k r is).1)
  where
    go : (b : Bool) (o : Option ℕ) → ((n : ℕ) → o ≡ Some n → n ≤ length past)
        → passing (λ f. not (f.decided == position)) (cond b (option_map (reported tested.role (moment past k) r) o) None) ≡ cond b (option_map (reported tested.role (moment past k) r) o) None
    go true (Some n) within =
        let most : n ≤ length past = within n refl in
        ap (λ b. cond (not b) (Some (reported tested.role (moment past k) r n)) None) (ne_eqb n position (λ same. omega (arith, most, later, same)))
    go true None within = refl
    go false o within = refl

-- without those that an event showed, the faults are those of the events before it
pub fault_in-dropped : (adds : ℕ → Rule → Bool) (tested : Tested) (e : Seen) (past : List Seen) (position : ℕ) (before after dropped : FaultMap) → length past < position
    → ((k : ℕ) (r : Rule) → fault_at before k r ≡ fault_in tested past k r) → GainsWithin adds tested (e ∷ past) position before after
    → entries dropped ≡ decided_elsewhere position (entries after) → (k : ℕ) (r : Rule) → fault_at dropped k r ≡ fault_in tested past k r
fault_in-dropped adds tested e past position before after dropped later found within is k r =
    fault_at-dropped position after dropped is k r ∙ go (within.each k r)
  where
    none : (b : Bool) → passing (elsewhere position) (cond b (Some (reported tested.role (moment (e ∷ past) k) r position)) None) ≡ None
    none true = ap (λ b. cond (not b) (Some (reported tested.role (moment (e ∷ past) k) r position)) None) (eq-eqb position position refl)
    none false = refl

    gained : (o : Option Fault) → passing (elsewhere position) o ≡ o → passing (elsewhere position) (option_or o (added adds tested (e ∷ past) position k r)) ≡ o
    gained (Some f) h = h
    gained None h = none (adds k r)

    kept : passing (elsewhere position) (fault_in tested past k r) ≡ fault_in tested past k r
    kept = past-passes tested past position k r later

    go : (fault_at after k r ≡ fault_at before k r) ⊎ (fault_at after k r ≡ option_or (fault_at before k r) (added adds tested (e ∷ past) position k r))
        → passing (elsewhere position) (fault_at after k r) ≡ fault_in tested past k r
    go (inl h) = ap (passing (elsewhere position)) (h ∙ found k r) ∙ kept
    go (inr h) = ap (passing (elsewhere position)) (h ∙ ap (λ o. option_or o (added adds tested (e ∷ past) position k r)) (found k r)) ∙ gained (fault_in tested past k r) kept

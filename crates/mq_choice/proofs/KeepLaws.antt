-- A copy of the faults of chosen statements, fault by fault.
use Rattle.std.proofs.Common.{◌≡◌, ℕ, Bool, true, false, ◌&&◌, cond, nat_eq, List, [], ◌∷◌, Option, Some, None, refl, sym, ap, ◌∙◌, true≢false}
use Rattle.std.specs.Option.{option_or}
use Rattle.std.specs.FinMap.{entries, find, get, empty, get-empty, get-entries}
use denote.Enum.Bare.{same_true}
use Rattle.mq_rules.specs.contracts.rule.Rule.{the_type}
use Rattle.mq_rules.specs.contracts.faults.FaultKeyOrd.TheImpl.Laws as laws
use Rattle.mq_rules.specs.declared.rule.Rule.{Rule}
use Rattle.mq_rules.specs.declared.fault.Fault.{Fault}
use Rattle.mq_rules.specs.declared.faults.FaultKey.{FaultKey}
use Rattle.mq_rules.specs.FaultKeys.{FaultMap, fault_at, key_cmp, with_fault}
use Rattle.mq_rules.specs.Rules.{same_rule}
use Rattle.mq_rules.proofs.Exports.{both_true, fault_at-with_fault}

-- what was kept, and then the chosen ones of those that are left, are the chosen ones of all
abbrev pub KeepsAll : (Rule → Bool) → FaultMap → List (FaultKey × Fault) → FaultMap → Type 0
KeepsAll chosen kept left all = (q : FaultKey) → option_or (get kept q) (cond (chosen q.rule) (find key_cmp q left) None) ≡ cond (chosen q.rule) (get all q) None

pub keep_begins : (chosen : Rule → Bool) (kept all : FaultMap) (left : List (FaultKey × Fault)) → kept ≡ empty → left ≡ entries all → KeepsAll chosen kept left all
keep_begins chosen kept all left none whole q =
    ap (λ m. option_or (get m q) (cond (chosen q.rule) (find key_cmp q left) None)) none
    ∙ ap (λ o. option_or o (cond (chosen q.rule) (find key_cmp q left) None)) (get-empty key_cmp q)
    ∙ ap (λ l. cond (chosen q.rule) (find key_cmp q l) None) whole
    ∙ ap (λ o. cond (chosen q.rule) o None) (sym (get-entries all q))

-- whether a key is this one
abbrev is_key : (q key : FaultKey) → Bool
is_key q key = nat_eq q.position key.position && same_rule q.rule key.rule

-- one key is chosen if the other one is
alike : (chosen : Rule → Bool) (q key : FaultKey) → is_key q key ≡ true → chosen q.rule ≡ chosen key.rule
alike chosen q key is =
    let both : (nat_eq q.position key.position ≡ true) × (same_rule q.rule key.rule ≡ true) = both_true (nat_eq q.position key.position) (same_rule q.rule key.rule) is in
    ap chosen (same_true the_type tt q.rule key.rule both.1)

kept_first : (a : Option Fault) (t b : Bool) (f : Fault) (o : Option Fault) → (t ≡ true → b ≡ true) → option_or (option_or a (cond t (Some f) None)) (cond b o None) ≡ option_or a (cond b (cond t (Some f) o) None)
kept_first (Some x) t b f o h = refl
kept_first None true true f o h = refl
kept_first None true false f o h = absurd (true≢false (sym (h refl)))
kept_first None false b f o h = refl

left_first : (a : Option Fault) (t b : Bool) (f : Fault) (o : Option Fault) → (t ≡ true → b ≡ false) → option_or a (cond b o None) ≡ option_or a (cond b (cond t (Some f) o) None)
left_first (Some x) t b f o h = refl
left_first None true true f o h = absurd (true≢false (h refl))
left_first None true false f o h = refl
left_first None false b f o h = refl

-- the first of those that are left
found_first : (chosen : Rule → Bool) (kept : FaultMap) (key : FaultKey) (fault : Fault) (left later : List (FaultKey × Fault)) (q : FaultKey) → left ≡ (key, fault) ∷ later
    → option_or (get kept q) (cond (chosen q.rule) (cond (is_key q key) (Some fault) (find key_cmp q later)) None) ≡ option_or (get kept q) (cond (chosen q.rule) (find key_cmp q left) None)
found_first chosen kept key fault left later q is =
    ap (λ b. option_or (get kept q) (cond (chosen q.rule) (cond b (Some fault) (find key_cmp q later)) None)) (laws.matches_eq-law q key)
    ∙ ap (λ l. option_or (get kept q) (cond (chosen q.rule) (find key_cmp q l) None)) (sym is)

pub keep_goes_on : (chosen : Rule → Bool) (kept next all : FaultMap) (key : FaultKey) (fault : Fault) (left later : List (FaultKey × Fault)) → KeepsAll chosen kept left all → left ≡ (key, fault) ∷ later
    → chosen key.rule ≡ true → next ≡ with_fault key fault kept → KeepsAll chosen next later all
keep_goes_on chosen kept next all key fault left later so_far is has grown q =
    ap (λ m. option_or (get m q) (cond (chosen q.rule) (find key_cmp q later) None)) grown
    ∙ ap (λ o. option_or o (cond (chosen q.rule) (find key_cmp q later) None)) (fault_at-with_fault kept key.position q.position key.rule q.rule fault)
    ∙ kept_first (get kept q) (is_key q key) (chosen q.rule) fault (find key_cmp q later) (λ t. alike chosen q key t ∙ has)
    ∙ found_first chosen kept key fault left later q is
    ∙ so_far q

pub keep_passes : (chosen : Rule → Bool) (kept all : FaultMap) (key : FaultKey) (fault : Fault) (left later : List (FaultKey × Fault)) → KeepsAll chosen kept left all → left ≡ (key, fault) ∷ later
    → chosen key.rule ≡ false → KeepsAll chosen kept later all
keep_passes chosen kept all key fault left later so_far is lacks q =
    left_first (get kept q) (is_key q key) (chosen q.rule) fault (find key_cmp q later) (λ t. alike chosen q key t ∙ lacks)
    ∙ found_first chosen kept key fault left later q is
    ∙ so_far q

without : (o : Option Fault) (b : Bool) → option_or o (cond b None None) ≡ o
without (Some x) b = refl
without None true = refl
without None false = refl

pub keep_ends : (chosen : Rule → Bool) (kept all : FaultMap) (left : List (FaultKey × Fault)) → KeepsAll chosen kept left all → left ≡ [] → (k : ℕ) (rule : Rule)
    → fault_at kept k rule ≡ cond (chosen rule) (fault_at all k rule) None
keep_ends chosen kept all left so_far none k rule =
    let q : FaultKey = record { position = k; rule = rule } in
    sym (without (get kept q) (chosen rule)) ∙ ap (λ l. option_or (get kept q) (cond (chosen rule) (find key_cmp q l) None)) (sym none) ∙ so_far q

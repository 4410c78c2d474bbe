-- Faults that are copied, and faults that are compared with others.
use Rattle.std.proofs.Common.{◌≡◌, ℕ, Bool, true, false, ◌&&◌, ◌==◌, cond, nat_eq, List, [], ◌∷◌, Option, Some, None, refl, sym, ap, ap₂, ◌∙◌, ◌↔◌}
use Rattle.std.specs.Option.{option_or}
use Rattle.std.specs.FinMap.{entries, find, get, empty, get-empty, get-entries, same_entries_map, same_map}
use Rattle.std.proofs.lemmas.Bool.{eqb-true, eq-eqb}
use denote.Enum.Bare.{same_true, true_same}
use Rattle.mq_rules.specs.contracts.rule.Rule.{the_type}
use Rattle.mq_rules.proofs.Exports.{both_true}
use Rattle.mq_rules.specs.contracts.faults.FaultKeyOrd.TheImpl.Laws as laws
use Rattle.mq_rules.specs.declared.rule.Rule.{Rule}
use Rattle.mq_rules.specs.declared.fault.Fault.{Fault}
use Rattle.mq_rules.specs.declared.faults.FaultKey.{FaultKey}
use Rattle.mq_rules.specs.FaultKeys.{FaultMap, key_cmp, with_fault}
use Rattle.mq_rules.specs.Rules.{same_rule}
use Rattle.mq_rules.specs.declared.role.Role.{Role}
use Rattle.mq_rules.specs.declared.role.Role.TheVariants.{Client, Server}
use Rattle.mq_rules.specs.declared.role.Further.{Further}
use Rattle.mq_rules.specs.declared.role.Tested.{Tested}
use Rattle.mq_trail.specs.Comparing.{same_end, same_fault, same_flag, same_further, same_key, same_offset, same_role}
use Rattle.mq_rules.proofs.FaultKeyLaws.{exact_keys, fault_at-with_fault, keys_total}

-- ---- a copy

-- what was copied, and then what is left, are all faults
abbrev pub CopiesAll : FaultMap → List (FaultKey × Fault) → FaultMap → Type 0
CopiesAll copy left all = (q : FaultKey) → option_or (get copy q) (find key_cmp q left) ≡ get all q

pub copy_begins : (copy all : FaultMap) (left : List (FaultKey × Fault)) → copy ≡ empty → left ≡ entries all → CopiesAll copy left all
copy_begins copy all left none whole q =
    ap (λ m. option_or (get m q) (find key_cmp q left)) none
    ∙ ap (λ o. option_or o (find key_cmp q left)) (get-empty key_cmp q)
    ∙ ap (find key_cmp q) whole
    ∙ sym (get-entries all q)

later_first : (a : Option Fault) (t : Bool) (f : Fault) (o : Option Fault) → option_or (option_or a (cond t (Some f) None)) o ≡ option_or a (cond t (Some f) o)
later_first (Some x) t f o = refl
later_first None true f o = refl
later_first None false f o = refl

pub copy_goes_on : (copy next all : FaultMap) (key : FaultKey) (fault : Fault) (left later : List (FaultKey × Fault)) → CopiesAll copy left all → left ≡ (key, fault) ∷ later
    → next ≡ with_fault key fault copy → CopiesAll next later all
copy_goes_on copy next all key fault left later so_far is grown q =
    let t : Bool = nat_eq q.position key.position && same_rule q.rule key.rule in
    ap (λ m. option_or (get m q) (find key_cmp q later)) grown
    ∙ ap (λ o. option_or o (find key_cmp q later)) (fault_at-with_fault copy key.position q.position key.rule q.rule fault)
    ∙ later_first (get copy q) t fault (find key_cmp q later)
    ∙ ap (λ b. option_or (get copy q) (cond b (Some fault) (find key_cmp q later))) (laws.matches_eq-law q key)
    ∙ ap (λ l. option_or (get copy q) (find key_cmp q l)) (sym is)
    ∙ so_far q

without : (o : Option Fault) → option_or o None ≡ o
without (Some x) = refl
without None = refl

pub copy_ends : (copy all : FaultMap) (left : List (FaultKey × Fault)) → CopiesAll copy left all → left ≡ [] → copy ≡ all
copy_ends copy all left so_far none =
    same_map keys_total exact_keys copy all (λ q. sym (without (get copy q)) ∙ ap (λ l. option_or (get copy q) (find key_cmp q l)) (sym none) ∙ so_far q)

-- ---- faults and others

exact_offset : (a b : Option ℕ) → same_offset a b ≡ true → a ≡ b
exact_offset None None h = refl
exact_offset None (Some b) h = absurd (cc)
exact_offset (Some a) None h = absurd (cc)
exact_offset (Some a) (Some b) h = ap Some (eqb-true a b h)

own_offset : (a : Option ℕ) → same_offset a a ≡ true
own_offset None = refl
own_offset (Some a) = eq-eqb a a refl

exact_key : (k l : FaultKey) → same_key k l ≡ true → k ≡ l
exact_key k l h =
    let both : ((k.position == l.position) ≡ true) × (same_rule k.rule l.rule ≡ true) = both_true (k.position == l.position) (same_rule k.rule l.rule) h in
    ap₂ (λ p r. record { position = p; rule = r }) (eqb-true k.position l.position both.0) (same_true the_type tt k.rule l.rule both.1)

exact_fault : (f g : Fault) → same_fault f g ≡ true → f ≡ g
exact_fault f g h =
    let outer : ((f.decided == g.decided) ≡ true) × (((f.record_no == g.record_no) && same_offset f.offset g.offset) ≡ true) = both_true _ _ h in
    let inner : ((f.record_no == g.record_no) ≡ true) × (same_offset f.offset g.offset ≡ true) = both_true _ _ outer.1 in
    ap (λ d. record { decided = d; record_no = f.record_no; offset = f.offset }) (eqb-true f.decided g.decided outer.0)
    ∙ ap₂ (λ r o. record { decided = g.decided; record_no = r; offset = o }) (eqb-true f.record_no g.record_no inner.0) (exact_offset f.offset g.offset inner.1)

own_rule : (r : Rule) → same_rule r r ≡ true
own_rule r = true_same the_type r r refl

own_key : (k : FaultKey) → same_key k k ≡ true
own_key k = ap₂ (λ a b. a && b) (eq-eqb k.position k.position refl) (own_rule k.rule)

own_fault : (f : Fault) → same_fault f f ≡ true
own_fault f = ap₂ (λ a b. a && b) (eq-eqb f.decided f.decided refl) (ap₂ (λ a b. a && b) (eq-eqb f.record_no f.record_no refl) (own_offset f.offset))

-- two lists of faults are one
abbrev pub alike : List (FaultKey × Fault) → List (FaultKey × Fault) → Bool
alike [] [] = true
alike [] (y ∷ ys) = false
alike (x ∷ xs) [] = false
alike (x ∷ xs) (y ∷ ys) = same_key x.0 y.0 && (same_fault x.1 y.1 && alike xs ys)

own_list : (xs : List (FaultKey × Fault)) → alike xs xs ≡ true
own_list [] = refl
own_list (x ∷ xs) = ap₂ (λ a b. a && b) (own_key x.0) (ap₂ (λ a b. a && b) (own_fault x.1) (own_list xs))

exact_list : (xs ys : List (FaultKey × Fault)) → alike xs ys ≡ true → xs ≡ ys
exact_list [] [] h = refl
exact_list [] (y ∷ ys) h = absurd (cc)
exact_list (x ∷ xs) [] h = absurd (cc)
exact_list (x ∷ xs) (y ∷ ys) h =
    let outer : (same_key x.0 y.0 ≡ true) × ((same_fault x.1 y.1 && alike xs ys) ≡ true) = both_true _ _ h in
    let inner : (same_fault x.1 y.1 ≡ true) × (alike xs ys ≡ true) = both_true _ _ outer.1 in
    let same : x ≡ y = ap₂ (λ k f. (k, f)) (exact_key x.0 y.0 outer.0) (exact_fault x.1 y.1 inner.0) in
    ap₂ (λ a b. a ∷ b) same (exact_list xs ys inner.1)

-- so far all were alike, and then these are left
abbrev pub AlikeSoFar : (faults others : FaultMap) (left right : List (FaultKey × Fault)) → Type 0
AlikeSoFar faults others left right = alike (entries faults) (entries others) ≡ alike left right

pub alike_begins : (faults others : FaultMap) (left right : List (FaultKey × Fault)) → left ≡ entries faults → right ≡ entries others → AlikeSoFar faults others left right
alike_begins faults others left right a b = sym (ap₂ alike a b)

pub alike_goes_on : (faults others : FaultMap) (key other_key : FaultKey) (fault other : Fault) (left right later rest : List (FaultKey × Fault)) → AlikeSoFar faults others left right
    → left ≡ (key, fault) ∷ later → right ≡ (other_key, other) ∷ rest → same_key key other_key ≡ true → same_fault fault other ≡ true → AlikeSoFar faults others later rest
alike_goes_on faults others key other_key fault other left right later rest so_far a b k f =
    so_far ∙ ap₂ alike a b ∙ ap₂ (λ x y. x && (y && alike later rest)) k f

-- what is answered says whether they are the same
answers : (faults others : FaultMap) (b : Bool) → alike (entries faults) (entries others) ≡ b → (b ≡ true) ↔ (faults ≡ others)
answers faults others b is = (
  (λ t. same_entries_map faults others (exact_list (entries faults) (entries others) (is ∙ t))),
  (λ e. sym is ∙ ap (λ m. alike (entries faults) (entries m)) (sym e) ∙ own_list (entries faults)),
)

pub differ_in_key : (faults others : FaultMap) (key other_key : FaultKey) (fault other : Fault) (left right later rest : List (FaultKey × Fault)) → AlikeSoFar faults others left right
    → left ≡ (key, fault) ∷ later → right ≡ (other_key, other) ∷ rest → same_key key other_key ≡ false → (false ≡ true) ↔ (faults ≡ others)
differ_in_key faults others key other_key fault other left right later rest so_far a b k =
    answers faults others false (so_far ∙ ap₂ alike a b ∙ ap (λ x. x && (same_fault fault other && alike later rest)) k)

pub differ_in_fault : (faults others : FaultMap) (key other_key : FaultKey) (fault other : Fault) (left right later rest : List (FaultKey × Fault)) → AlikeSoFar faults others left right
    → left ≡ (key, fault) ∷ later → right ≡ (other_key, other) ∷ rest → same_key key other_key ≡ true → same_fault fault other ≡ false → (false ≡ true) ↔ (faults ≡ others)
differ_in_fault faults others key other_key fault other left right later rest so_far a b k f =
    answers faults others false (so_far ∙ ap₂ alike a b ∙ ap₂ (λ x y. x && (y && alike later rest)) k f)

pub differ_in_length : (faults others : FaultMap) (key : FaultKey) (fault : Fault) (left right later : List (FaultKey × Fault)) → AlikeSoFar faults others left right
    → left ≡ (key, fault) ∷ later → right ≡ [] → (false ≡ true) ↔ (faults ≡ others)
differ_in_length faults others key fault left right later so_far a b = answers faults others false (so_far ∙ ap₂ alike a b)

-- all were alike, and others are left, or none
pub more_others : (faults others : FaultMap) (left right rest : List (FaultKey × Fault)) (other : FaultKey × Fault) → AlikeSoFar faults others left right → left ≡ [] → right ≡ other ∷ rest
    → (false ≡ true) ↔ (faults ≡ others)
more_others faults others left right rest other so_far a b = answers faults others false (so_far ∙ ap₂ alike a b)

pub no_others : (faults others : FaultMap) (left right : List (FaultKey × Fault)) → AlikeSoFar faults others left right → left ≡ [] → right ≡ [] → (true ≡ true) ↔ (faults ≡ others)
no_others faults others left right so_far a b = answers faults others true (so_far ∙ ap₂ alike a b)

-- ---- tested ends

exact_role : (a b : Role) → same_role a b ≡ true → a ≡ b
exact_role Client Client h = refl
exact_role Client Server h = absurd (cc)
exact_role Server Client h = absurd (cc)
exact_role Server Server h = refl

exact_flag : (a b : Bool) → same_flag a b ≡ true → a ≡ b
exact_flag true true h = refl
exact_flag true false h = absurd (cc)
exact_flag false true h = absurd (cc)
exact_flag false false h = refl

own_flag : (a : Bool) → same_flag a a ≡ true
own_flag true = refl
own_flag false = refl

own_role : (a : Role) → same_role a a ≡ true
own_role Client = refl
own_role Server = refl

own_further : (a : Further) → same_further a a ≡ true
own_further a = rw (own_flag a.on_request, own_flag a.with_times) refl

exact_further : (a b : Further) → same_further a b ≡ true → a ≡ b
exact_further a b h =
    let both : (same_flag a.on_request b.on_request ≡ true) × (same_flag a.with_times b.with_times ≡ true) =
    both_true (same_flag a.on_request b.on_request) (same_flag a.with_times b.with_times) h in
    ap₂ (λ r t. record { on_request = r; with_times = t }) (exact_flag a.on_request b.on_request both.0) (exact_flag a.with_times b.with_times both.1)

own_end : (a : Tested) → same_end a a ≡ true
own_end a = rw (own_role a.role, own_flag a.releases, own_further a.further) refl

pub exact_end : (a b : Tested) → same_end a b ≡ true → a ≡ b
exact_end a b h =
    let both : (same_role a.role b.role ≡ true) × ((same_flag a.releases b.releases && same_further a.further b.further) ≡ true) =
    both_true (same_role a.role b.role) (same_flag a.releases b.releases && same_further a.further b.further) h in
    let flags : (same_flag a.releases b.releases ≡ true) × (same_further a.further b.further ≡ true) = both_true (same_flag a.releases b.releases) (same_further a.further b.further) both.1 in
    ap₂ (λ r f. record { role = r; releases = f; further = a.further }) (exact_role a.role b.role both.0) (exact_flag a.releases b.releases flags.0)
    ∙ ap (λ f. record { role = b.role; releases = b.releases; further = f }) (exact_further a.further b.further flags.1)

pub other_end : (a b : Tested) → same_end a b ≡ false → a ≡ b → ⊥
other_end a b h e = absurd (let bad : true ≡ false = sym (own_end a) ∙ ap (same_end a) e ∙ h in cc)

-- What an event shows is the same in a longer log.
use Rattle.std.proofs.Common.{◌≡◌, ℕ, ◌+◌, ◌<◌, ◌≤◌, ◌==◌, nat_lt, T, Bool, true, false, cond, ◌&&◌, List, [], ◌∷◌, ◌++◌, length, map, Option, Some, None, refl, sym, ap, subst, ◌∙◌, arith, length-append, append_assoc, append-nil}
use Rattle.std.specs.Option.{option_or}
use Rattle.std.specs.List.{filter}
use Rattle.std.specs.Cmp.{IsTotalOrder}
use Rattle.std.specs.Ordering.{is_eq, is_lt}
use Rattle.std.specs.declared.cmp.Ordering.{Ordering}
use Rattle.std.specs.declared.cmp.Ordering.TheVariants.{Less, Equal, Greater}
use Rattle.std.specs.FinMap.{entries, entries_sorted, get-entries}
use Rattle.std.specs.FinMap.Entries.{find, below_all, is_sorted, same_entries}
use Rattle.std.proofs.lemmas.Bool.{ltb-true, ltb-false, ne_eqb}
use Rattle.std.proofs.lemmas.List.{length-map}
use Rattle.mq_log.specs.Context.{context, placed_for, put}
use Rattle.mq_log.specs.Events.{Placed, events}
use Rattle.mq_log.proofs.Exports.{events-kept}
use Rattle.mq_rules.specs.declared.note.Seen.{Seen}
use Rattle.mq_rules.specs.declared.role.Further.{Further}
use Rattle.mq_rules.specs.declared.role.Tested.{Tested}
use Rattle.mq_rules.specs.declared.rule.Rule.{Rule}
use Rattle.mq_rules.specs.declared.fault.Fault.{Fault}
use Rattle.mq_rules.specs.declared.faults.FaultKey.{FaultKey}
use Rattle.mq_rules.specs.Notes.{tested_by, seen, seen_in}
use Rattle.mq_rules.specs.Moments.{moment}
use Rattle.mq_rules.specs.Steps.{turns}
use Rattle.mq_rules.specs.FaultKeys.{FaultMap, fault_at, key_cmp}
use Rattle.mq_rules.specs.Faults.{reported, fault_in}
use Rattle.mq_rules.proofs.Exports.{fault_in-start, fault_in-step}
use Rattle.mq_rules.proofs.FaultKeyLaws.{exact_keys, keys_total}
use Rattle.mq_judge.specs.Judging.{AreFaultsOf}
use Rattle.mq_judge.proofs.JudgeLaws.{tested-stays, unseen}
use Rattle.mq_ffi.specs.Asking.{Found}
use Rattle.mq_ffi.specs.Giving.{shown_by}

-- a fault, if this event shows it
abbrev shown : ℕ → Option Fault → Option Fault
shown event None = None
shown event (Some fault) = cond (fault.decided == event) (Some fault) None

first : (a b : Bool) → T (a && b) → T a
first true b p = tt
first false b p = p

second : (a b : Bool) → T (a && b) → T b
second true b p = p
second false b p = absurd p

both : (a b : Bool) → T a → T b → T (a && b)
both true b p q = q
both false b p q = p

is_less : (o : Ordering) → T (is_lt o) → o ≡ Less
is_less Less p = refl
is_less Equal p = absurd p
is_less Greater p = absurd p

is_equal : (o : Ordering) → is_eq o ≡ true → o ≡ Equal
is_equal Less h = absurd (cc)
is_equal Equal h = refl
is_equal Greater h = absurd (cc)

-- ---- the entries that an event shows are found by their keys

below : (event : ℕ) (key : FaultKey) (xs : List Found) → T (below_all key_cmp key xs) → T (below_all key_cmp key (shown_by event xs))
below event key [] h = tt
below event key (x ∷ xs) h =
    let rest = below event key xs (second _ _ h) in
    elim (x.1.decided == event) as (λ b. T (below_all key_cmp key (cond b (x ∷ shown_by event xs) (shown_by event xs)))) [ true ↦ both _ _ (first _ _ h) rest | false ↦ rest ]

sorted : (event : ℕ) (xs : List Found) → T (is_sorted key_cmp xs) → T (is_sorted key_cmp (shown_by event xs))
sorted event [] h = tt
sorted event (x ∷ xs) h =
    let rest = sorted event xs (second _ _ h) in
    elim (x.1.decided == event) as (λ b. T (is_sorted key_cmp (cond b (x ∷ shown_by event xs) (shown_by event xs)))) [
      | true ↦ both _ _ (below event x.0 xs (first _ _ h)) rest
      | false ↦ rest
    ]

-- no key after one that ties does
tied-none : (q k : FaultKey) (xs : List Found) → key_cmp q k ≡ Equal → T (below_all key_cmp k xs) → find key_cmp q xs ≡ None
tied-none q k [] tie under = refl
tied-none q k (x ∷ xs) tie under =
    let less : key_cmp q x.0 ≡ Less = keys_total.congr q k x.0 tie ∙ is_less (key_cmp k x.0) (first _ _ under) in
    ap (λ r. cond (is_eq r) (Some x.1) (find key_cmp q xs)) less ∙ tied-none q k xs tie (second _ _ under)

find-shown : (event : ℕ) (q : FaultKey) (xs : List Found) → T (is_sorted key_cmp xs) → find key_cmp q (shown_by event xs) ≡ shown event (find key_cmp q xs)
find-shown event q [] h = refl
find-shown event q (x ∷ xs) h = go (is_eq (key_cmp q x.0)) refl (x.1.decided == event) refl (find-shown event q xs (second _ _ h)) where
  go : (b : Bool) → is_eq (key_cmp q x.0) ≡ b → (c : Bool) → (x.1.decided == event) ≡ c → find key_cmp q (shown_by event xs) ≡ shown event (find key_cmp q xs)
      → find key_cmp q (cond (x.1.decided == event) (x ∷ shown_by event xs) (shown_by event xs)) ≡ shown event (cond (is_eq (key_cmp q x.0)) (Some x.1) (find key_cmp q xs))
  go true tie true p rest = rw (tie, p) (ap (λ b. cond b (Some x.1) (find key_cmp q (shown_by event xs))) tie)
  go true tie false p rest = rw (tie, p) (rest ∙ ap (shown event) (tied-none q x.0 xs (is_equal (key_cmp q x.0) tie) (first _ _ h)))
  go false tie true p rest = rw (tie, p) (ap (λ b. cond b (Some x.1) (find key_cmp q (shown_by event xs))) tie ∙ rest)
  go false tie false p rest = rw (tie, p) rest

find-shown_at : (event : ℕ) (faults : FaultMap) (q : FaultKey) → find key_cmp q (shown_by event (entries faults)) ≡ shown event (fault_at faults q.position q.rule)
find-shown_at event faults q = find-shown event q (entries faults) (entries_sorted faults) ∙ ap (shown event) (sym (get-entries faults q))

-- maps of which an event shows the same
pub same_shown : (event : ℕ) (m n : FaultMap) → ((k : ℕ) (rule : Rule) → shown event (fault_at m k rule) ≡ shown event (fault_at n k rule)) → shown_by event (entries m) ≡ shown_by event (entries n)
same_shown event m n same =
    same_entries key_cmp keys_total exact_keys (shown_by event (entries m)) (shown_by event (entries n)) (sorted event (entries m) (entries_sorted m)) (sorted event (entries n) (entries_sorted n))
    (λ q. find-shown_at event m q ∙ same q.position q.rule ∙ sym (find-shown_at event n q))

nothing : (event : ℕ) (xs : List Found) → T (is_sorted key_cmp xs) → ((q : FaultKey) → find key_cmp q xs ≡ None) → xs ≡ []
nothing event xs h none = same_entries key_cmp keys_total exact_keys xs [] h tt none

pub none_shown : (event : ℕ) (m : FaultMap) → ((k : ℕ) (rule : Rule) → shown event (fault_at m k rule) ≡ None) → shown_by event (entries m) ≡ []
none_shown event m none = nothing event (shown_by event (entries m)) (sorted event (entries m) (entries_sorted m)) (λ q. find-shown_at event m q ∙ none q.position q.rule)

-- ---- what an event shows in a list of events

-- another event shows nothing of what a later one shows
apart : (event at : ℕ) (role_fault : ℕ → Fault) → ((n : ℕ) → (role_fault n).decided ≡ n) → ¬ (at ≡ event) → (o : Option Fault) (b : Bool)
    → shown event (option_or o (cond b (Some (role_fault at)) None)) ≡ shown event o
apart event at role_fault is other (Some fault) b = refl
apart event at role_fault is other None true =
    ap (λ c. cond c (Some (role_fault at)) None) (ne_eqb (role_fault at).decided event (λ same. other (sym (is at) ∙ same)))
apart event at role_fault is other None false = refl

one_more : (event : ℕ) (tested : Tested) (e : Seen) (past : List Seen) (k : ℕ) (rule : Rule) → ¬ (length past + 1 ≡ event)
    → shown event (fault_in tested (e ∷ past) k rule) ≡ shown event (fault_in tested past k rule)
one_more event tested e past k rule other =
    ap (shown event) (fault_in-step tested e past k rule)
    ∙ apart event (length past + 1) (reported tested.role (moment (e ∷ past) k) rule) (λ n. refl) other (fault_in tested past k rule) (turns tested e past k rule)

stays-in : (event : ℕ) (tested : Tested) (newer past : List Seen) (k : ℕ) (rule : Rule) → event ≤ length past
    → shown event (fault_in tested (newer ++ past) k rule) ≡ shown event (fault_in tested past k rule)
stays-in event tested [] past k rule within = refl
stays-in event tested (e ∷ newer) past k rule within =
    one_more event tested e (newer ++ past) k rule (λ same. absurd (omega (arith, same, within, length-append newer past)))
    ∙ stays-in event tested newer past k rule within

none-in : (event : ℕ) (tested : Tested) (past : List Seen) (k : ℕ) (rule : Rule) → length past < event → shown event (fault_in tested past k rule) ≡ None
none-in event tested [] k rule later = ap (shown event) (fault_in-start tested k rule)
none-in event tested (e ∷ past) k rule later =
    one_more event tested e past k rule (λ same. absurd (let l : length past + 1 < event = omega (arith, later) in omega (arith, same, l)))
    ∙ none-in event tested past k rule (omega (arith, later))

-- ---- and in a log

byte-more : (log : List ℕ) (byte : ℕ) → (newer : List Seen) × (seen_in (log ++ byte ∷ []) ≡ newer ++ seen_in log)
unfolding seen_in
byte-more log byte =
    let more = go (placed_for (context log) byte) in
    (more.0, ap (map seen) (events-kept log byte) ∙ more.1)
  where
    go : (completed : Option Placed) → (newer : List Seen) × (map seen (put completed (events log)) ≡ newer ++ map seen (events log))
    go None = ([], refl)
    go (Some p) = (seen p ∷ [], refl)

seen-more : (log more : List ℕ) → (newer : List Seen) × (seen_in (log ++ more) ≡ newer ++ seen_in log)
seen-more log [] = ([], ap seen_in (append-nil log))
seen-more log (byte ∷ more) =
    let here = byte-more log byte in
    let later = seen-more (log ++ byte ∷ []) more in (
      later.0 ++ here.0,
      ap seen_in (sym (append_assoc log (byte ∷ []) more)) ∙ later.1 ∙ ap (λ s. later.0 ++ s) here.1 ∙ sym (append_assoc later.0 here.0 (seen_in log)),
    )

counted : (log : List ℕ) → length (seen_in log) ≡ length (events log)
unfolding seen_in
counted log = length-map (events log) seen

pub none_yet : (further : Further) (log : List ℕ) (known : FaultMap) → AreFaultsOf further log known → (event : ℕ) → length (events log) < event → shown_by event (entries known) ≡ []
none_yet further log known are event later =
    none_shown event known (λ k rule. ap (shown event) (are k rule) ∙ none-in event (tested_by further log) (seen_in log) k rule (subst (λ n. n < event) (sym (counted log)) later))

-- the end that a header names makes no difference before there is an event
same-tested : (further : Further) (log more : List ℕ) (event k : ℕ) (rule : Rule)
    → shown event (fault_in (tested_by further (log ++ more)) (seen_in log) k rule) ≡ shown event (fault_in (tested_by further log) (seen_in log) k rule)
same-tested further log more event k rule = go (nat_lt (length log) 8) refl where
  go : (b : Bool) → nat_lt (length log) 8 ≡ b → shown event (fault_in (tested_by further (log ++ more)) (seen_in log) k rule) ≡ shown event (fault_in (tested_by further log) (seen_in log) k rule)
  go true is =
      let few = ltb-true (length log) 8 is in
      let none : seen_in log ≡ [] = unseen log (omega (arith, few)) in
      ap (λ s. shown event (fault_in (tested_by further (log ++ more)) s k rule)) none
      ∙ ap (shown event) (fault_in-start (tested_by further (log ++ more)) k rule ∙ sym (fault_in-start (tested_by further log) k rule))
      ∙ ap (λ s. shown event (fault_in (tested_by further log) s k rule)) (sym none)
  go false is = ap (λ t. shown event (fault_in t (seen_in log) k rule)) (tested-stays further log more (ltb-false (length log) 8 is))

pub shown_stays : (further : Further) (log more : List ℕ) (known later : FaultMap) → AreFaultsOf further log known → AreFaultsOf further (log ++ more) later → (event : ℕ) → event ≤ length (events log)
    → shown_by event (entries later) ≡ shown_by event (entries known)
shown_stays further log more known later are are_later event within =
    same_shown event later known (λ k rule.
    let newer = seen-more log more in
    ap (shown event) (are_later k rule ∙ ap (λ s. fault_in (tested_by further (log ++ more)) s k rule) newer.1)
    ∙ stays-in event (tested_by further (log ++ more)) newer.0 (seen_in log) k rule (subst (λ n. event ≤ n) (sym (counted log)) within)
    ∙ same-tested further log more event k rule
    ∙ ap (shown event) (sym (are k rule)))

-- Faults at earlier positions, decided with one event.
use Rattle.std.proofs.Common.{◌≡◌, ℕ, ◌+◌, ◌-◌, ◌<◌, ◌≤◌, ◌==◌, arith, Bool, true, false, cond, ◌&&◌, ◌⊎◌, inl, inr, List, [], ◌∷◌, length, is_some, Option, Some, None, refl, ap, sym, ◌∙◌, subst}
use Rattle.std.proofs.lemmas.List.{nil_from_length}
use Rattle.std.specs.Option.{option_or}
use denote.Enum.Bare.{same_true}
use Rattle.mq_log.specs.declared.place.Place3.{Place3}
use Rattle.mq_rules.specs.contracts.rule.Rule.{the_type}
use Rattle.mq_rules.specs.declared.role.Tested.{Tested}
use Rattle.mq_rules.specs.declared.rule.Rule.{Rule}
use Rattle.mq_rules.specs.declared.fate.Fate.{Fate}
use Rattle.mq_rules.specs.declared.fault.Fault.{Fault}
use Rattle.mq_rules.specs.declared.faults.FaultKey.{FaultKey}
use Rattle.mq_rules.specs.declared.note.Seen.{Seen}
use Rattle.mq_rules.specs.Moments.{moment}
use Rattle.mq_rules.specs.Rules.{same_rule}
use Rattle.mq_rules.specs.Faults.{reported}
use Rattle.mq_rules.specs.FaultKeys.{FaultMap, fault_at, with_fault}
use Rattle.mq_rules.specs.IdentifierCounts.{ids_where}
use Rattle.mq_rules.specs.KeptOrder.{IsFirst, found_from, values_of}
use Rattle.mq_rules.proofs.Exports.{fault_at-with_fault, found_from-first, found_from-none, option_or-none, values-counted}
use Rattle.mq_rules.specs.Under.{turns_with}
use Rattle.mq_rules.specs.Growing.{added, Gains, GainsWithin}
use Rattle.mq_fates.specs.Judgements.{blamed, Keeps}

-- the first of these places at a position
abbrev pub place_at : ℕ → List Place3 → Option Place3
place_at k [] = None
place_at k (place ∷ places) = cond (k == place.position) (Some place) (place_at k places)

abbrev pub blame_of : ℕ → Option Place3 → Option Fault
blame_of at None = None
blame_of at (Some place) = Some (record { decided = at; record_no = place.record_no; offset = None })

in_turn : {A : Type 0} (a b c : Option A) → option_or (option_or a b) c ≡ option_or a (option_or b c)
in_turn None b c = refl
in_turn (Some a) b c = refl

pub fault_at-blamed : (rule : Rule) (at : ℕ) (places : List Place3) (m : FaultMap) (k : ℕ) (r : Rule) → fault_at (blamed rule at places m) k r ≡ option_or (fault_at m k r) (cond (same_rule r rule) (blame_of at (place_at k places)) None)
fault_at-blamed rule at [] m k r = sym (ap (option_or (fault_at m k r)) (go (same_rule r rule)) ∙ option_or-none (fault_at m k r))
  where
    go : (b : Bool) → cond b (blame_of at None) None ≡ None
    go true = refl
    go false = refl
fault_at-blamed rule at (place ∷ places) m k r =
    fault_at-blamed rule at places (with_fault (record { position = place.position; rule = rule }) f m) k r
    ∙ ap (λ o. option_or o (cond (same_rule r rule) (blame_of at (place_at k places)) None)) (fault_at-with_fault m place.position k rule r f)
    ∙ in_turn (fault_at m k r) (cond ((k == place.position) && same_rule r rule) (Some f) None) (cond (same_rule r rule) (blame_of at (place_at k places)) None)
    ∙ ap (option_or (fault_at m k r)) (go (k == place.position) (same_rule r rule))
  where
    f : Fault
    f = record { decided = at; record_no = place.record_no; offset = None }

    go : (a b : Bool) → option_or (cond (a && b) (Some f) None) (cond b (blame_of at (place_at k places)) None) ≡ cond b (blame_of at (cond a (Some place) (place_at k places))) None
    go true true = refl
    go true false = refl
    go false true = refl
    go false false = refl

again : {A : Type 0} (a b : Option A) → option_or a (option_or a b) ≡ option_or a b
again None b = refl
again (Some a) b = refl

pub keeps_same : (m : FaultMap) → Keeps m m
keeps_same m = record { each = λ k r. go (fault_at m k r) }
  where
    go : (o : Option Fault) → option_or o o ≡ o
    go None = refl
    go (Some f) = refl

pub keeps_with_fault : (old mid : FaultMap) (key : FaultKey) (f : Fault) → Keeps old mid → Keeps old (with_fault key f mid)
keeps_with_fault old mid key f h = record {
  each = λ k r.
      let is = fault_at-with_fault mid key.position k key.rule r f in
      ap (option_or (fault_at old k r)) is ∙ go (fault_at old k r) (fault_at mid k r) (cond ((k == key.position) && same_rule r key.rule) (Some f) None) (h.each k r) ∙ sym is;
}
  where
    go : (a b c : Option Fault) → option_or a b ≡ b → option_or a (option_or b c) ≡ option_or b c
    go None b c h = refl
    go (Some x) b c h = ap (λ o. option_or o c) h

pub keeps_blamed : (rule : Rule) (at : ℕ) (places : List Place3) (m : FaultMap) → Keeps m (blamed rule at places m)
keeps_blamed rule at places m = record {
  each = λ k r.
      let is = fault_at-blamed rule at places m k r in
      ap (option_or (fault_at m k r)) is ∙ again (fault_at m k r) (cond (same_rule r rule) (blame_of at (place_at k places)) None) ∙ sym is;
}

-- what lies between the old faults and all that were to come is within
pub within_kept : (a : ℕ → Rule → Bool) (tested : Tested) (log : List Seen) (at : ℕ) (old mid new : FaultMap) → Gains a tested log at old new → Keeps old mid → Keeps mid new → GainsWithin a tested log at old mid
within_kept a tested log at old mid new g h i = record { each = λ k r. go (fault_at old k r) (fault_at mid k r) (fault_at new k r) (added a tested log at k r) (h.each k r) (i.each k r) (g.each k r) }
  where
    go : (a b c n : Option Fault) → option_or a b ≡ b → option_or b c ≡ c → c ≡ option_or a n → (b ≡ a) ⊎ (b ≡ option_or a n)
    go None None c n p q s = inl refl
    go (Some x) None c n p q s = absurd (cc)
    go a (Some y) c n p q s = inr (q ∙ s)

pub gains_blamed : (tested : Tested) (rule : Rule) (f : Fate) (e : Seen) (past : List Seen) (at : ℕ) (places : List Place3) (old : FaultMap)
    → ((k : ℕ) → blame_of at (place_at k places) ≡ cond (turns_with tested f e past k rule) (Some (reported tested.role (moment (e ∷ past) k) rule at)) None)
    → Gains (λ k r. same_rule r rule && turns_with tested f e past k r) tested (e ∷ past) at old (blamed rule at places old)
gains_blamed tested rule f e past at places old is = record { each = λ k r. fault_at-blamed rule at places old k r ∙ ap (option_or (fault_at old k r)) (go k r (same_rule r rule) refl) }
  where
    go : (k : ℕ) (r : Rule) (s : Bool) → same_rule r rule ≡ s → cond s (blame_of at (place_at k places)) None ≡ cond (s && turns_with tested f e past k r) (Some (reported tested.role (moment (e ∷ past) k) r at)) None
    go k r false h = refl
    go k r true h = subst (λ (q : Rule). blame_of at (place_at k places) ≡ cond (turns_with tested f e past k q) (Some (reported tested.role (moment (e ∷ past) k) q at)) None) (sym (same_true the_type tt r rule h)) (is k)

-- where the statement turns out nowhere, nothing is added
pub gains_none : (tested : Tested) (rule : Rule) (f : Fate) (e : Seen) (past : List Seen) (at : ℕ) (old : FaultMap) → ((k : ℕ) → turns_with tested f e past k rule ≡ false)
    → Gains (λ k r. same_rule r rule && turns_with tested f e past k r) tested (e ∷ past) at old old
gains_none tested rule f e past at old is = record { each = λ k r. sym (ap (option_or (fault_at old k r)) (go k r (same_rule r rule) refl) ∙ option_or-none (fault_at old k r)) }
  where
    go : (k : ℕ) (r : Rule) (s : Bool) → same_rule r rule ≡ s → cond (s && turns_with tested f e past k r) (Some (reported tested.role (moment (e ∷ past) k) r at)) None ≡ None
    go k r false h = refl
    go k r true h = ap (λ b. cond b (Some (reported tested.role (moment (e ∷ past) k) r at)) None) (ap (λ q. turns_with tested f e past k q) (same_true the_type tt r rule h) ∙ is k)

-- ---- the faults of what is due, in the order of the identifiers

pub blamed-first : (rule : Rule) (at : ℕ) (due : ℕ → Option Place3) (next i : ℕ) (place : Place3) (m : FaultMap) → next ≤ 65536 → i < 65536 → IsFirst due next (Some (i, place))
    → blamed rule at (found_from due next (65536 - next)) m
    ≡ blamed rule at (found_from due (i + 1) (65536 - (i + 1))) (with_fault (record { position = place.position; rule = rule }) (record { decided = at; record_no = place.record_no; offset = None }) m)
blamed-first rule at due next i place m within small first =
    let from = first.0 in
    ap (λ places. blamed rule at places m) (found_from-first due next (65536 - next) i (65536 - (i + 1)) place first (omega (arith, within, small, from)))

pub blamed-none : (rule : Rule) (at : ℕ) (due : ℕ → Option Place3) (next : ℕ) (m : FaultMap) → IsFirst due next None → blamed rule at (found_from due next (65536 - next)) m ≡ m
blamed-none rule at due next m none = ap (λ places. blamed rule at places m) (found_from-none due next (65536 - next) none)

pub blamed-all : (rule : Rule) (at : ℕ) (due : ℕ → Option Place3) (m : FaultMap) → blamed rule at (found_from due 0 65536) m ≡ blamed rule at (values_of due) m
unfolding values_of
blamed-all rule at due m = refl

-- how many of them are left
pub left-first : (due : ℕ → Option Place3) (next i : ℕ) (place : Place3) → next ≤ 65536 → i < 65536 → IsFirst due next (Some (i, place)) → length (found_from due next (65536 - next)) ≡ 1 + length (found_from due (i + 1) (65536 - (i + 1)))
left-first due next i place within small first =
    let from = first.0 in
    let one : length (found_from due next (65536 - next)) ≡ length (place ∷ found_from due (i + 1) (65536 - (i + 1))) = ap (length {A = Place3}) (found_from-first due next (65536 - next) i (65536 - (i + 1)) place first (omega (arith, within, small, from))) in
    omega (arith, one)

pub left-all : (due : ℕ → Option Place3) → length (found_from due 0 65536) ≡ ids_where (λ i. is_some (due i))
unfolding values_of
left-all due = values-counted due

pub blamed-end : (rule : Rule) (at : ℕ) (places : List Place3) (m : FaultMap) → length places ≡ 0 → blamed rule at places m ≡ m
blamed-end rule at places m none = ap (λ places. blamed rule at places m) (nil_from_length places none)

-- Growth by some pairs, and then by others.
use Rattle.std.proofs.Common.{◌≡◌, ℕ, Bool, true, false, cond, ◌&&◌, ◌||◌, ◌⊎◌, inl, inr, List, Option, Some, None, refl, ap, sym, ◌∙◌}
use Rattle.std.specs.Option.{option_or}
use Rattle.mq_rules.specs.declared.role.Tested.{Tested}
use Rattle.mq_rules.specs.declared.rule.Rule.{Rule}
use Rattle.mq_rules.specs.declared.fault.Fault.{Fault}
use Rattle.mq_rules.specs.declared.note.Seen.{Seen}
use Rattle.mq_rules.specs.Moments.{moment}
use Rattle.mq_rules.specs.FaultKeys.{FaultMap, fault_at}
use Rattle.mq_rules.specs.Faults.{reported}
use Rattle.mq_rules.proofs.BoolLaws.{option_or-none}
use Rattle.mq_rules.specs.Growing.{added, Gains, GainsWithin}

two : (o : Option Fault) (a b : Bool) (f : Fault) → option_or (option_or o (cond a (Some f) None)) (cond b (Some f) None) ≡ option_or o (cond (a || b) (Some f) None)
two (Some x) a b f = refl
two None true true f = refl
two None true false f = refl
two None false b f = refl

first : (o n : Option Fault) (a b : Bool) (f : Fault) → (n ≡ o) ⊎ (n ≡ option_or o (cond a (Some f) None)) → (n ≡ o) ⊎ (n ≡ option_or o (cond (a || b) (Some f) None))
first o n a b f (inl h) = inl h
first o n true b f (inr h) = inr h
first o n false b f (inr h) = inl (h ∙ option_or-none o)

second : (o m n : Option Fault) (a b : Bool) (f : Fault) → m ≡ option_or o (cond a (Some f) None) → (n ≡ m) ⊎ (n ≡ option_or m (cond b (Some f) None)) → (n ≡ o) ⊎ (n ≡ option_or o (cond (a || b) (Some f) None))
second o m n true b f p (inl h) = inr (h ∙ p)
second o m n false b f p (inl h) = inl (h ∙ p ∙ option_or-none o)
second o m n a b f p (inr h) = inr (h ∙ ap (λ x. option_or x (cond b (Some f) None)) p ∙ two o a b f)

pub gains_then : (a b : ℕ → Rule → Bool) (tested : Tested) (log : List Seen) (at : ℕ) (old mid new : FaultMap) → Gains a tested log at old mid → Gains b tested log at mid new → Gains (λ k r. a k r || b k r) tested log at old new
gains_then a b tested log at old mid new g h = record {
  each = λ k r. h.each k r ∙ ap (λ o. option_or o (added b tested log at k r)) (g.each k r) ∙ two (fault_at old k r) (a k r) (b k r) (reported tested.role (moment log k) r at);
}

pub within_first : (a b : ℕ → Rule → Bool) (tested : Tested) (log : List Seen) (at : ℕ) (old new : FaultMap) → GainsWithin a tested log at old new → GainsWithin (λ k r. a k r || b k r) tested log at old new
within_first a b tested log at old new g = record { each = λ k r. first (fault_at old k r) (fault_at new k r) (a k r) (b k r) (reported tested.role (moment log k) r at) (g.each k r) }

pub within_second : (a b : ℕ → Rule → Bool) (tested : Tested) (log : List Seen) (at : ℕ) (old mid new : FaultMap) → Gains a tested log at old mid → GainsWithin b tested log at mid new → GainsWithin (λ k r. a k r || b k r) tested log at old new
within_second a b tested log at old mid new g h = record {
  each = λ k r. second (fault_at old k r) (fault_at mid k r) (fault_at new k r) (a k r) (b k r) (reported tested.role (moment log k) r at) (g.each k r) (h.each k r);
}

-- nothing is added
pub gains_nothing : (a : ℕ → Rule → Bool) (tested : Tested) (log : List Seen) (at : ℕ) (m : FaultMap) → ((k : ℕ) (r : Rule) → a k r ≡ false) → Gains a tested log at m m
gains_nothing a tested log at m none = record {
  each = λ k r. sym (ap (λ b. option_or (fault_at m k r) (cond b (Some (reported tested.role (moment log k) r at)) None)) (none k r) ∙ option_or-none (fault_at m k r));
}

pub within_nothing : (a : ℕ → Rule → Bool) (tested : Tested) (log : List Seen) (at : ℕ) (old new : FaultMap) → new ≡ old → GainsWithin a tested log at old new
within_nothing a tested log at old new h = record { each = λ k r. inl (ap (λ m. fault_at m k r) h) }

pub within_all : (a : ℕ → Rule → Bool) (tested : Tested) (log : List Seen) (at : ℕ) (old new : FaultMap) → Gains a tested log at old new → GainsWithin a tested log at old new
within_all a tested log at old new g = record { each = λ k r. inr (g.each k r) }

-- the same pairs, by another test
pub gains_same : (a b : ℕ → Rule → Bool) (tested : Tested) (log : List Seen) (at : ℕ) (old new : FaultMap) → ((k : ℕ) (r : Rule) → a k r ≡ b k r) → Gains a tested log at old new → Gains b tested log at old new
gains_same a b tested log at old new same g = record {
  each = λ k r. g.each k r ∙ ap (λ t. option_or (fault_at old k r) (cond t (Some (reported tested.role (moment log k) r at)) None)) (same k r);
}

pub within_same : (a b : ℕ → Rule → Bool) (tested : Tested) (log : List Seen) (at : ℕ) (old new : FaultMap) → ((k : ℕ) (r : Rule) → a k r ≡ b k r) → GainsWithin a tested log at old new → GainsWithin b tested log at old new
within_same a b tested log at old new same g = record { each = λ k r. go k r (g.each k r) }
  where
    go : (k : ℕ) (r : Rule) → (fault_at new k r ≡ fault_at old k r) ⊎ (fault_at new k r ≡ option_or (fault_at old k r) (added a tested log at k r))
        → (fault_at new k r ≡ fault_at old k r) ⊎ (fault_at new k r ≡ option_or (fault_at old k r) (added b tested log at k r))
    go k r (inl h) = inl h
    go k r (inr h) = inr (h ∙ ap (λ t. option_or (fault_at old k r) (cond t (Some (reported tested.role (moment log k) r at)) None)) (same k r))

-- the same faults, where the pairs that are added are the same moments of another log
pub gains_in : (a : ℕ → Rule → Bool) (tested : Tested) (log other : List Seen) (at : ℕ) (old new : FaultMap) → ((k : ℕ) (r : Rule) → a k r ≡ true → moment log k ≡ moment other k)
    → Gains a tested log at old new → Gains a tested other at old new
gains_in a tested log other at old new same g = record { each = λ k r. g.each k r ∙ ap (option_or (fault_at old k r)) (go k r (a k r) refl) }
  where
    go : (k : ℕ) (r : Rule) (t : Bool) → a k r ≡ t → cond t (Some (reported tested.role (moment log k) r at)) None ≡ cond t (Some (reported tested.role (moment other k) r at)) None
    go k r false h = refl
    go k r true h = ap (λ o. Some (reported tested.role o r at)) (same k r h)

pub within_in : (a : ℕ → Rule → Bool) (tested : Tested) (log other : List Seen) (at : ℕ) (old new : FaultMap) → ((k : ℕ) (r : Rule) → a k r ≡ true → moment log k ≡ moment other k)
    → GainsWithin a tested log at old new → GainsWithin a tested other at old new
within_in a tested log other at old new same g = record { each = λ k r. go k r (g.each k r) }
  where
    alike : (k : ℕ) (r : Rule) (t : Bool) → a k r ≡ t → cond t (Some (reported tested.role (moment log k) r at)) None ≡ cond t (Some (reported tested.role (moment other k) r at)) None
    alike k r false h = refl
    alike k r true h = ap (λ o. Some (reported tested.role o r at)) (same k r h)

    go : (k : ℕ) (r : Rule) → (fault_at new k r ≡ fault_at old k r) ⊎ (fault_at new k r ≡ option_or (fault_at old k r) (added a tested log at k r))
        → (fault_at new k r ≡ fault_at old k r) ⊎ (fault_at new k r ≡ option_or (fault_at old k r) (added a tested other at k r))
    go k r (inl h) = inl h
    go k r (inr h) = inr (h ∙ ap (option_or (fault_at old k r)) (alike k r (a k r) refl))

-- the pairs of either set of statements
either : (a b t : Bool) → ((a && t) || (b && t)) ≡ ((a || b) && t)
either true true true = refl
either true true false = refl
either true false true = refl
either true false false = refl
either false b t = refl

pub gains_either : (a b : Rule → Bool) (t : ℕ → Rule → Bool) (tested : Tested) (log : List Seen) (at : ℕ) (old mid new : FaultMap)
    → Gains (λ k r. a r && t k r) tested log at old mid → Gains (λ k r. b r && t k r) tested log at mid new → Gains (λ k r. (a r || b r) && t k r) tested log at old new
gains_either a b t tested log at old mid new g h =
    gains_same (λ k r. (a r && t k r) || (b r && t k r)) (λ k r. (a r || b r) && t k r) tested log at old new (λ k r. either (a r) (b r) (t k r))
    (gains_then (λ k r. a r && t k r) (λ k r. b r && t k r) tested log at old mid new g h)

pub within_either_first : (a b : Rule → Bool) (t : ℕ → Rule → Bool) (tested : Tested) (log : List Seen) (at : ℕ) (old new : FaultMap)
    → GainsWithin (λ k r. a r && t k r) tested log at old new → GainsWithin (λ k r. (a r || b r) && t k r) tested log at old new
within_either_first a b t tested log at old new g =
    within_same (λ k r. (a r && t k r) || (b r && t k r)) (λ k r. (a r || b r) && t k r) tested log at old new (λ k r. either (a r) (b r) (t k r))
    (within_first (λ k r. a r && t k r) (λ k r. b r && t k r) tested log at old new g)

pub within_either_second : (a b : Rule → Bool) (t : ℕ → Rule → Bool) (tested : Tested) (log : List Seen) (at : ℕ) (old mid new : FaultMap)
    → Gains (λ k r. a r && t k r) tested log at old mid → GainsWithin (λ k r. b r && t k r) tested log at mid new → GainsWithin (λ k r. (a r || b r) && t k r) tested log at old new
within_either_second a b t tested log at old mid new g h =
    within_same (λ k r. (a r && t k r) || (b r && t k r)) (λ k r. (a r || b r) && t k r) tested log at old new (λ k r. either (a r) (b r) (t k r))
    (within_second (λ k r. a r && t k r) (λ k r. b r && t k r) tested log at old mid new g h)

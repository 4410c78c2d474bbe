-- The faults of an event that is judged at once, those of two passes, and what is found at the earliest event of a connection.
use Rattle.std.proofs.Common.{◌≡◌, ◌+◌, ◌∷◌, ◌&&◌, ◌||◌, ◌⊎◌, inl, inr, Bool, true, false, cond, List, [], length, Option, Some, None, refl, ap, sym, ◌∙◌, subst}
use Rattle.std.specs.Prelude.{is_some}
use Rattle.std.specs.Option.{option_and_then, option_or}
use Rattle.mq_rules.specs.declared.role.Tested.{Tested}
use Rattle.mq_rules.specs.declared.rule.Rule.{Rule}
use Rattle.mq_rules.specs.declared.fault.Fault.{Fault}
use Rattle.mq_rules.specs.declared.note.Note.{Note}
use Rattle.mq_rules.specs.declared.note.Seen.{Seen}
use Rattle.mq_rules.specs.Moments.{Moment, note, first_found, earliest_since}
use Rattle.mq_rules.specs.Steps.{turns}
use Rattle.mq_rules.specs.FaultKeys.{FaultMap, fault_at}
use Rattle.mq_rules.specs.Faults.{fault_in, chosen_fault, Grows, GrowsWithin}
use Rattle.mq_rules.specs.Growing.{Gains, GainsWithin, GrowsBy, GrowsByWithin}
use Rattle.mq_rules.proofs.Exports.{option_or-none}

-- ---- one event

pub placed-grows : (chosen : Rule → Bool) (tested : Tested) (e : Seen) (past : List Seen) (old new : FaultMap) → e.place.position ≡ length past + 1
    → Gains (λ k r. chosen r && turns tested e past k r) tested (e ∷ past) e.place.position old new → GrowsBy chosen tested e past old new
placed-grows chosen tested e past old new placed g = record { each = (subst (λ n. Gains (λ k r. chosen r && turns tested e past k r) tested (e ∷ past) n old new) placed g).each }

pub placed-within : (chosen : Rule → Bool) (tested : Tested) (e : Seen) (past : List Seen) (old new : FaultMap) → e.place.position ≡ length past + 1
    → GainsWithin (λ k r. chosen r && turns tested e past k r) tested (e ∷ past) e.place.position old new → GrowsByWithin chosen tested e past old new
placed-within chosen tested e past old new placed g = record { each = (subst (λ n. GainsWithin (λ k r. chosen r && turns tested e past k r) tested (e ∷ past) n old new) placed g).each }

-- ---- one pass, and then another

-- the fault of a pair by one of them or by the other
two : (o here : Option Fault) (a b : Bool) → option_or (option_or o (cond a here None)) (cond b here None) ≡ option_or o (cond (a || b) here None)
two (Some x) here a b = refl
two None None true true = refl
two None None true false = refl
two None (Some x) true b = refl
two None here false b = refl

first-part : (o n here : Option Fault) (a b : Bool) → (n ≡ o) ⊎ (n ≡ option_or o (cond a here None)) → (n ≡ o) ⊎ (n ≡ option_or o (cond (a || b) here None))
first-part o n here a b (inl h) = inl h
first-part o n here true b (inr h) = inr h
first-part o n here false b (inr h) = inl (h ∙ option_or-none o)

second-part : (o m n here : Option Fault) (a b : Bool) → m ≡ option_or o (cond a here None) → (n ≡ m) ⊎ (n ≡ option_or m (cond b here None)) → (n ≡ o) ⊎ (n ≡ option_or o (cond (a || b) here None))
second-part o m n here true b p (inl h) = inr (h ∙ p)
second-part o m n here false b p (inl h) = inl (h ∙ p ∙ option_or-none o)
second-part o m n here a b p (inr h) = inr (h ∙ ap (λ x. option_or x (cond b here None)) p ∙ two o here a b)

pub grows-then : (a b : Rule → Bool) (tested : Tested) (log : List Seen) (old mid new : FaultMap) → Grows a tested log old mid → Grows b tested log mid new → Grows (λ r. a r || b r) tested log old new
grows-then a b tested log old mid new g h = record {
  each = λ k r. h.each k r ∙ ap (λ o. option_or o (chosen_fault b tested log k r)) (g.each k r) ∙ two (fault_at old k r) (fault_in tested log k r) (a r) (b r);
}

pub within-first : (a b : Rule → Bool) (tested : Tested) (log : List Seen) (old new : FaultMap) → GrowsWithin a tested log old new → GrowsWithin (λ r. a r || b r) tested log old new
within-first a b tested log old new g = record { each = λ k r. first-part (fault_at old k r) (fault_at new k r) (fault_in tested log k r) (a r) (b r) (g.each k r) }

pub within-second : (a b : Rule → Bool) (tested : Tested) (log : List Seen) (old mid new : FaultMap) → Grows a tested log old mid → GrowsWithin b tested log mid new → GrowsWithin (λ r. a r || b r) tested log old new
within-second a b tested log old mid new g h = record {
  each = λ k r. second-part (fault_at old k r) (fault_at mid k r) (fault_at new k r) (fault_in tested log k r) (a r) (b r) (g.each k r) (h.each k r);
}

-- ---- the earliest event at which something is found

-- where the earliest moment that has something is this one, it has it
pub earliest-has : {A : Type 0} (found : Note → Option A) (ms : List Moment) (x : Moment) → earliest_since (λ m. is_some (found (note m))) (λ m. false) ms ≡ Some x → is_some (found (note x)) ≡ true
earliest-has found [] x h = absurd (cc)
earliest-has found (m ∷ ms) x h = go (earliest_since (λ n. is_some (found (note n))) (λ n. false) ms) (is_some (found (note m))) refl h (earliest-has found ms x)
  where
    go : (older : Option Moment) (b : Bool) → is_some (found (note m)) ≡ b → option_or older (cond b (Some m) None) ≡ Some x → (older ≡ Some x → is_some (found (note x)) ≡ true) → is_some (found (note x)) ≡ true
    go (Some y) b is h rest = rest h
    go None true is h rest = let same : m ≡ x = cc in subst (λ n. is_some (found (note n)) ≡ true) same is
    go None false is h rest = absurd (cc)

first : {A : Type 0} (o here : Option A) → is_some o ≡ true → option_or o here ≡ o
first (Some a) here h = refl
first None here h = absurd (cc)

-- what is found first is found at that moment
pub earliest-found : {A : Type 0} (found : Note → Option A) (ms : List Moment) → first_found found ms ≡ option_and_then (λ m. found (note m)) (earliest_since (λ m. is_some (found (note m))) (λ m. false) ms)
earliest-found {A = A} found [] = refl
earliest-found {A = A} found (m ∷ ms) =
    ap (λ o. option_or o (found (note m))) (earliest-found found ms)
    ∙ go (earliest_since (λ n. is_some (found (note n))) (λ n. false) ms) (found (note m)) refl (earliest-has found ms)
  where
    go : (older : Option Moment) (here : Option A) → found (note m) ≡ here → ((x : Moment) → older ≡ Some x → is_some (found (note x)) ≡ true)
        → option_or (option_and_then (λ n. found (note n)) older) here ≡ option_and_then (λ n. found (note n)) (option_or older (cond (is_some here) (Some m) None))
    go (Some x) here is has = first (found (note x)) here (has x refl)
    go None (Some a) is has = sym is
    go None None is has = refl

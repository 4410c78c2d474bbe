-- The evidence by an identifier, and what is added for the faults of an event.
use Rattle.std.proofs.Common.{◌≡◌, ℕ, Bool, true, false, cond, ◌&&◌, ◌||◌, nat_eq, List, ◌∷◌, Option, Some, None, refl, ap, sym, ◌∙◌}
use Rattle.std.specs.Prelude.{unwrap_or, option_map}
use Rattle.std.specs.Option.{option_or}
use Rattle.std.specs.List.{list_any}
use denote.Enum.Bare.{same_true}
use Rattle.mq_rules.specs.contracts.rule.Rule.{the_type}
use Rattle.mq_rules.specs.declared.rule.Rule.{Rule}
use Rattle.mq_rules.specs.declared.fault.Fault.{Fault}
use Rattle.mq_rules.specs.declared.faults.FaultKey.{FaultKey}
use Rattle.mq_rules.specs.Rules.{same_rule}
use Rattle.mq_rules.specs.Words.{only}
use Rattle.mq_rules.specs.declared.evidence.Evidence.{Evidence}
use Rattle.mq_rules.specs.Evidence.{nothing}
use Rattle.mq_evidence.specs.Trailing.{is_explained}

-- an event has this identifier, and this is the evidence by it
pub by-identifier : (o : Option ℕ) (i : ℕ) (of : ℕ → Evidence) (evidence : Evidence) → o ≡ Some i → evidence ≡ of i → evidence ≡ unwrap_or (option_map of o) nothing
by-identifier o i of evidence is same = same ∙ sym (ap (λ x. unwrap_or (option_map of x) nothing) is)

-- it has none
pub by-none : (o : Option ℕ) (of : ℕ → Evidence) (evidence : Evidence) → o ≡ None → evidence ≡ nothing → evidence ≡ unwrap_or (option_map of o) nothing
by-none o of evidence is same = same ∙ sym (ap (λ x. unwrap_or (option_map of x) nothing) is)

-- ---- what is added for the faults of an event

-- the two are of the same statement
rules-same : (a b : Rule) → same_rule a b ≡ true → a ≡ b
rules-same a b h = same_true the_type tt a b h

-- some fault more is looked at, and then the others
joined : (a b : Bool) (e : Evidence) (old : Option Evidence) → option_or (only a (Some e)) (option_or (only b (Some e)) old) ≡ option_or (only (b || a) (Some e)) old
joined true true e old = refl
joined true false e old = refl
joined false true e old = refl
joined false false e old = refl

-- its evidence is added
pub explained-more : (finds : Rule → Bool) (ev : Rule → Evidence) (f : FaultKey × Fault) (given : Evidence) (old : Option Evidence) (k : ℕ) (r : Rule) → Some given ≡ only (finds f.0.rule) (Some (ev f.0.rule))
    → cond (nat_eq f.0.position k && same_rule f.0.rule r) (Some given) old ≡ option_or (only (is_explained finds k r f) (Some (ev r))) old
explained-more finds ev f given old k r is = go (nat_eq f.0.position k) (same_rule f.0.rule r) refl
  where
    there : (b : Bool) → Some given ≡ only b (Some (ev f.0.rule)) → (b ≡ true) × (given ≡ ev f.0.rule)
    there true h = (refl, cc)
    there false h = absurd (cc)

    go : (a b : Bool) → same_rule f.0.rule r ≡ b → cond (a && b) (Some given) old ≡ option_or (only (a && (b && finds r)) (Some (ev r))) old
    go false b h = refl
    go true false h = refl
    go true true h =
        let same : f.0.rule ≡ r = rules-same f.0.rule r h in
        let finds_it : finds r ≡ true = sym (ap finds same) ∙ (there (finds f.0.rule) is).0 in
        ap (λ x. Some x) ((there (finds f.0.rule) is).1 ∙ ap ev same)
        ∙ sym (ap (λ b. option_or (only b (Some (ev r))) old) finds_it)

-- nothing is found of it
pub explained-none : (finds : Rule → Bool) (ev : Rule → Evidence) (f : FaultKey × Fault) (old : Option Evidence) (k : ℕ) (r : Rule) → None ≡ only (finds f.0.rule) (Some (ev f.0.rule))
    → old ≡ option_or (only (is_explained finds k r f) (Some (ev r))) old
explained-none finds ev f old k r is = go (nat_eq f.0.position k) (same_rule f.0.rule r) refl
  where
    none : (b : Bool) → None ≡ only b (Some (ev f.0.rule)) → b ≡ false
    none true h = absurd (cc)
    none false h = refl

    go : (a b : Bool) → same_rule f.0.rule r ≡ b → old ≡ option_or (only (a && (b && finds r)) (Some (ev r))) old
    go false b h = refl
    go true false h = refl
    go true true h =
        let same : f.0.rule ≡ r = rules-same f.0.rule r h in
        let finds_it : finds r ≡ false = sym (ap finds same) ∙ none (finds f.0.rule) is in
        sym (ap (λ b. option_or (only b (Some (ev r))) old) finds_it)

-- with the others that are left
pub explained-rest : (finds : Rule → Bool) (ev : Rule → Evidence) (f : FaultKey × Fault) (fs : List (FaultKey × Fault)) (old new : Option Evidence) (k : ℕ) (r : Rule) → new ≡ option_or (only (is_explained finds k r f) (Some (ev r))) old
    → option_or (only (list_any (is_explained finds k r) fs) (Some (ev r))) new ≡ option_or (only (list_any (is_explained finds k r) (f ∷ fs)) (Some (ev r))) old
explained-rest finds ev f fs old new k r is = ap (option_or (only (list_any (is_explained finds k r) fs) (Some (ev r)))) is ∙ joined (list_any (is_explained finds k r) fs) (is_explained finds k r f) (ev r) old

-- How the faults of one statement grow under a fate.
use Rattle.std.proofs.Common.{◌≡◌, ℕ, ◌+◌, ◌==◌, Bool, true, false, cond, ◌&&◌, List, ◌∷◌, length, Option, Some, None, refl, ap, sym, ◌∙◌, subst}
use Rattle.std.specs.Option.{option_or}
use denote.Enum.Bare.{same_true}
use Rattle.mq_rules.specs.contracts.rule.Rule.{the_type}
use Rattle.mq_rules.specs.declared.role.Tested.{Tested}
use Rattle.mq_rules.specs.declared.rule.Rule.{Rule}
use Rattle.mq_rules.specs.declared.fate.Fate.{Fate}
use Rattle.mq_rules.specs.declared.fault.Fault.{Fault}
use Rattle.mq_rules.specs.declared.note.Seen.{Seen}
use Rattle.mq_rules.specs.Moments.{Moment, newest, moment, is_next}
use Rattle.mq_rules.specs.Connections.{accepts}
use Rattle.mq_rules.specs.Rules.{binds, same_rule}
use Rattle.mq_rules.specs.Statements.{in_session, at_release, statement}
use Rattle.mq_rules.specs.Faults.{reported, offset_of}
use Rattle.mq_rules.specs.FaultKeys.{FaultMap, fault_at}
use Rattle.mq_rules.proofs.Exports.{and-past, and_false, fault_at-with_fault, option_or-none}
use Rattle.mq_rules.specs.Under.{shows_with, turns_with}
use Rattle.mq_rules.specs.Growing.{Gains}
use Rattle.mq_fates.specs.Judgements.{judged_by}

-- a statement of a session turns out false at the newest position alone
pub session-turns_with : (tested : Tested) (rule : Rule) (breaks : Fate → Moment → Bool) → statement tested.role rule ≡ in_session breaks → (f : Fate) (e : Seen) (past : List Seen) (k : ℕ)
    → turns_with tested f e past k rule ≡ (is_next past k && (binds rule tested && (accepts f && breaks f (newest e past))))
unfolding turns_with
session-turns_with tested rule breaks says f e past k =
    ap (λ s. binds rule tested && shows_with tested.role f s e past k) says ∙ and-past (binds rule tested) (is_next past k) (accepts f && breaks f (newest e past))

pub release-turns_with : (tested : Tested) (rule : Rule) (breaks : Fate → Moment → Bool) → statement tested.role rule ≡ at_release breaks → (f : Fate) (e : Seen) (past : List Seen) (k : ℕ)
    → turns_with tested f e past k rule ≡ (is_next past k && (binds rule tested && breaks f (newest e past)))
unfolding turns_with
release-turns_with tested rule breaks says f e past k =
    ap (λ s. binds rule tested && shows_with tested.role f s e past k) says ∙ and-past (binds rule tested) (is_next past k) (breaks f (newest e past))

-- a statement that is judged at its own position alone
pub gains_judged : (tested : Tested) (rule : Rule) (f : Fate) (e : Seen) (past : List Seen) (at : ℕ) (old : FaultMap) (b : Bool) → ((m : Option Moment) → offset_of (statement tested.role rule) m ≡ None)
    → e.place.position ≡ length past + 1 → ((k : ℕ) → turns_with tested f e past k rule ≡ (is_next past k && b))
    → Gains (λ k r. same_rule r rule && turns_with tested f e past k r) tested (e ∷ past) at old (judged_by b rule e.place at old)
gains_judged tested rule f e past at old b plain placed turns = record { each = λ k r. judged k r b refl }
  where
    here : Fault
    here = record { decided = at; record_no = e.place.record_no; offset = None }

    told_here : (k : ℕ) (n : Bool) → is_next past k ≡ n → cond (n && b) (Some here) None ≡ cond (n && b) (Some (reported tested.role (moment (e ∷ past) k) rule at)) None
    told_here k false h = refl
    told_here k true h =
        ap (λ o. cond b (Some (record { decided = at; record_no = e.place.record_no; offset = o })) None) (sym (plain (Some (newest e past))))
        ∙ ap (λ n. cond b (Some (reported tested.role (cond n (Some (newest e past)) (moment past k)) rule at)) None) (sym h)

    at_rule : (k : ℕ) → cond ((k == e.place.position) && b) (Some here) None ≡ cond (turns_with tested f e past k rule) (Some (reported tested.role (moment (e ∷ past) k) rule at)) None
    at_rule k =
        ap (λ p. cond ((k == p) && b) (Some here) None) placed
        ∙ told_here k (is_next past k) refl
        ∙ ap (λ t. cond t (Some (reported tested.role (moment (e ∷ past) k) rule at)) None) (sym (turns k))

    go : (k : ℕ) (r : Rule) (s : Bool) → same_rule r rule ≡ s → cond ((k == e.place.position) && (s && b)) (Some here) None ≡ cond (s && turns_with tested f e past k r) (Some (reported tested.role (moment (e ∷ past) k) r at)) None
    go k r false h = ap (λ t. cond t (Some here) None) (and_false (k == e.place.position))
    go k r true h = subst (λ (q : Rule). cond ((k == e.place.position) && b) (Some here) None ≡ cond (turns_with tested f e past k q) (Some (reported tested.role (moment (e ∷ past) k) q at)) None) (sym (same_true the_type tt r rule h)) (at_rule k)

    whole : (t s : Bool) → cond (t && s) (Some here) None ≡ cond (t && (s && true)) (Some here) None
    whole true true = refl
    whole true false = refl
    whole false s = refl

    empty : (k : ℕ) (r : Rule) → cond ((k == e.place.position) && (same_rule r rule && false)) (Some here) None ≡ None
    empty k r = ap (λ t. cond t (Some here) None) (ap (λ t. (k == e.place.position) && t) (and_false (same_rule r rule)) ∙ and_false (k == e.place.position))

    judged : (k : ℕ) (r : Rule) (t : Bool) → b ≡ t → fault_at (judged_by t rule e.place at old) k r ≡ option_or (fault_at old k r) (cond (same_rule r rule && turns_with tested f e past k r) (Some (reported tested.role (moment (e ∷ past) k) r at)) None)
    judged k r true h =
        fault_at-with_fault old e.place.position k rule r here
        ∙ ap (option_or (fault_at old k r)) (whole (k == e.place.position) (same_rule r rule) ∙ ap (λ t. cond ((k == e.place.position) && (same_rule r rule && t)) (Some here) None) (sym h) ∙ go k r (same_rule r rule) refl)
    judged k r false h =
        sym (option_or-none (fault_at old k r))
        ∙ ap (option_or (fault_at old k r)) (sym (empty k r) ∙ ap (λ t. cond ((k == e.place.position) && (same_rule r rule && t)) (Some here) None) (sym h) ∙ go k r (same_rule r rule) refl)

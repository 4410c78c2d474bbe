-- How the faults grow, by several statements and by several events.
use Rattle.std.proofs.Common.{◌≡◌, ℕ, ◌+◌, Bool, true, false, cond, ◌&&◌, List, [], ◌∷◌, length, Option, Some, None, refl, ap, sym, subst, ◌∙◌, ◌⊎◌, inl, inr}
use Rattle.std.specs.Option.{option_or}
use mathlib.Core.List.{reverse_aux}
use Rattle.mq_rules.specs.declared.role.Tested.{Tested}
use Rattle.mq_rules.specs.declared.rule.Rule.{Rule}
use Rattle.mq_rules.specs.declared.fault.Fault.{Fault}
use Rattle.mq_rules.specs.declared.note.Seen.{Seen}
use Rattle.mq_rules.specs.Moments.{moment}
use Rattle.mq_rules.specs.Steps.{turns}
use Rattle.mq_rules.specs.FaultKeys.{FaultMap, fault_at}
use Rattle.mq_rules.specs.Faults.{reported, fault_in, Grows, GrowsWithin}
use Rattle.mq_rules.specs.Growing.{news, GrowsBy, GrowsByWithin}
use Rattle.mq_rules.proofs.BoolLaws.{option_or-none}
use Rattle.mq_rules.proofs.DecidedLaws.{fault_in-step, fault_in-start}

-- ---- one event more

-- a pair's fault of the events so far, or else the one that the next event shows
one_more : (o : Option Fault) (c : Bool) (here : Option Fault) (t : Bool) (x : Fault) → option_or (option_or o (cond c here None)) (cond (c && t) (Some x) None) ≡ option_or o (cond c (option_or here (cond t (Some x) None)) None)
one_more (Some y) c here t x = refl
one_more None true here t x = refl
one_more None false here t x = refl

-- with the events so far the faults are right, and with one more they have grown by what turns out to fail
pub grows-step : (chosen : Rule → Bool) (tested : Tested) (e : Seen) (past : List Seen) (first old new : FaultMap)
    → Grows chosen tested past first old → GrowsBy chosen tested e past old new → Grows chosen tested (e ∷ past) first new
grows-step chosen tested e past first old new was more = record {
  each = λ k rule. more.each k rule
      ∙ ap (λ o. option_or o (news chosen tested e past k rule)) (was.each k rule)
      ∙ one_more (fault_at first k rule) (chosen rule) (fault_in tested past k rule) (turns tested e past k rule) (reported tested.role (moment (e ∷ past) k) rule (length past + 1))
      ∙ ap (λ o. option_or (fault_at first k rule) (cond (chosen rule) o None)) (sym (fault_in-step tested e past k rule));
}

pub grows-start : (chosen : Rule → Bool) (tested : Tested) (faults : FaultMap) → Grows chosen tested [] faults faults
grows-start chosen tested faults = record {
  each = λ k rule. sym (ap (λ o. option_or (fault_at faults k rule) (cond (chosen rule) o None)) (fault_in-start tested k rule)
      ∙ ap (option_or (fault_at faults k rule)) (alike (chosen rule)) ∙ option_or-none (fault_at faults k rule));
}
  where
    alike : (c : Bool) → cond {A = Option Fault} c None None ≡ None
    alike true = refl
    alike false = refl

-- ---- what a refusal leaves

-- the fault of a pair stays with one event more
fault_stays : (tested : Tested) (e : Seen) (past : List Seen) (k : ℕ) (rule : Rule) (x : Fault) → fault_in tested past k rule ≡ Some x → fault_in tested (e ∷ past) k rule ≡ Some x
fault_stays tested e past k rule x h = fault_in-step tested e past k rule ∙ ap (λ o. option_or o (cond (turns tested e past k rule) (Some (reported tested.role (moment (e ∷ past) k) rule (length past + 1))) None)) h

later_or_old : (now first here whole : Option Fault) (c : Bool) → now ≡ option_or first (cond c here None) → ((x : Fault) → here ≡ Some x → whole ≡ Some x)
    → (now ≡ first) ⊎ (now ≡ option_or first (cond c whole None))
later_or_old now first here whole false h later = inl (h ∙ option_or-none first)
later_or_old now first None whole true h later = inl (h ∙ option_or-none first)
later_or_old now first (Some x) whole true h later = inr (h ∙ ap (option_or first) (sym (later x refl)))

-- what is within the faults of a log is within those of the log with one event more
within-older : (chosen : Rule → Bool) (tested : Tested) (e : Seen) (past : List Seen) (first now : FaultMap) → GrowsWithin chosen tested past first now → GrowsWithin chosen tested (e ∷ past) first now
within-older chosen tested e past first now h = record { each = λ k rule. go k rule (h.each k rule) }
  where
    go : (k : ℕ) (rule : Rule) → (fault_at now k rule ≡ fault_at first k rule) ⊎ (fault_at now k rule ≡ option_or (fault_at first k rule) (cond (chosen rule) (fault_in tested past k rule) None))
        → (fault_at now k rule ≡ fault_at first k rule) ⊎ (fault_at now k rule ≡ option_or (fault_at first k rule) (cond (chosen rule) (fault_in tested (e ∷ past) k rule) None))
    go k rule (inl same) = inl same
    go k rule (inr more) = later_or_old (fault_at now k rule) (fault_at first k rule) (fault_in tested past k rule) (fault_in tested (e ∷ past) k rule) (chosen rule) more (fault_stays tested e past k rule)

pub within-later : (chosen : Rule → Bool) (tested : Tested) (later past : List Seen) (first now : FaultMap) → GrowsWithin chosen tested past first now → GrowsWithin chosen tested (reverse_aux later past) first now
within-later chosen tested [] past first now h = h
within-later chosen tested (e ∷ later) past first now h = within-later chosen tested later (e ∷ past) first now (within-older chosen tested e past first now h)

pub grows-within : (chosen : Rule → Bool) (tested : Tested) (log : List Seen) (first now : FaultMap) → Grows chosen tested log first now → GrowsWithin chosen tested log first now
grows-within chosen tested log first now h = record { each = λ k rule. inr (h.each k rule) }

-- a refusal in the middle of an event
pub within-step : (chosen : Rule → Bool) (tested : Tested) (e : Seen) (past : List Seen) (first old now : FaultMap)
    → Grows chosen tested past first old → GrowsByWithin chosen tested e past old now → GrowsWithin chosen tested (e ∷ past) first now
within-step chosen tested e past first old now was more = record { each = λ k rule. go k rule (more.each k rule) }
  where
    older : GrowsWithin chosen tested (e ∷ past) first old
    older = within-older chosen tested e past first old (grows-within chosen tested past first old was)

    go : (k : ℕ) (rule : Rule) → (fault_at now k rule ≡ fault_at old k rule) ⊎ (fault_at now k rule ≡ option_or (fault_at old k rule) (news chosen tested e past k rule))
        → (fault_at now k rule ≡ fault_at first k rule) ⊎ (fault_at now k rule ≡ option_or (fault_at first k rule) (cond (chosen rule) (fault_in tested (e ∷ past) k rule) None))
    go k rule (inl same) = subst (λ o. (o ≡ fault_at first k rule) ⊎ (o ≡ option_or (fault_at first k rule) (cond (chosen rule) (fault_in tested (e ∷ past) k rule) None))) (sym same) (older.each k rule)
    go k rule (inr grown) = inr (grown ∙ ap (λ o. option_or o (news chosen tested e past k rule)) (was.each k rule)
        ∙ one_more (fault_at first k rule) (chosen rule) (fault_in tested past k rule) (turns tested e past k rule) (reported tested.role (moment (e ∷ past) k) rule (length past + 1))
        ∙ ap (λ o. option_or (fault_at first k rule) (cond (chosen rule) o None)) (sym (fault_in-step tested e past k rule)))

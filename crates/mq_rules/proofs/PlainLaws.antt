-- The plain evaluators: a list that is read from its front, and the statements on the bytes of one packet.
use Rattle.std.proofs.Common.{◌≡◌, ℕ, ◌+◌, ◌<◌, Bool, List, [], ◌∷◌, length, take, drop, get_or, refl, ap, sym, ◌∙◌, subst, arith, zero, suc, add-one}
use Rattle.std.specs.Prelude.{reverse}
use mathlib.Core.List.{reverse_aux}
use Rattle.mq_rules.specs.declared.role.Tested.{Tested}
use Rattle.mq_rules.specs.declared.rule.Rule.{Rule}
use Rattle.mq_rules.specs.declared.note.Seen.{Seen}
use Rattle.mq_rules.specs.Moments.{IsPlaced}
use Rattle.mq_rules.specs.FaultKeys.{FaultMap}
use Rattle.mq_rules.specs.Faults.{Grows, GrowsWithin}
use Rattle.mq_rules.specs.Growing.{GrowsBy, GrowsByWithin}
use Rattle.mq_rules.proofs.GrowLaws.{grows-step, within-later, grows-within, within-step}

-- ---- a list that is read from its front

onto : (xs : List Seen) (i : ℕ) (d : Seen) (later : List Seen) → i < length xs → reverse_aux (take (suc i) xs) later ≡ get_or xs i d ∷ reverse_aux (take i xs) later
onto [] i d later h = absurd (omega arith)
onto (x ∷ xs) zero d later h = refl
onto (x ∷ xs) (suc i) d later h = let lt : i < length xs = omega arith in onto xs i d (x ∷ later) lt

-- one more event is the newest
pub newest-first : (xs : List Seen) (i : ℕ) (e : Seen) → i < length xs → e ≡ get_or xs i e → reverse (take (i + 1) xs) ≡ e ∷ reverse (take i xs)
newest-first xs i e h is = ap (λ n. reverse (take n xs)) (add-one i) ∙ onto xs i e [] h ∙ ap (λ x. x ∷ reverse (take i xs)) (sym is)

parts : (xs : List Seen) (i : ℕ) (past : List Seen) → reverse_aux xs past ≡ reverse_aux (drop i xs) (reverse_aux (take i xs) past)
parts [] zero past = refl
parts [] (suc i) past = refl
parts (x ∷ xs) zero past = refl
parts (x ∷ xs) (suc i) past = parts xs i (x ∷ past)

-- the list is that of its first events with the later ones before them
pub beginning : (xs : List Seen) (i : ℕ) → reverse_aux (drop i xs) (reverse (take i xs)) ≡ reverse xs
beginning xs i = sym (parts xs i [])

placed_tail : (later past : List Seen) → IsPlaced (reverse_aux later past) → IsPlaced past
placed_tail [] past h = h
placed_tail (e ∷ later) past h = (placed_tail later (e ∷ past) h).1

-- each event has its place
pub next-place : (xs : List Seen) (i : ℕ) (e : Seen) → i < length xs → e ≡ get_or xs i e → IsPlaced (reverse xs) → e.place.position ≡ length (reverse (take i xs)) + 1
next-place xs i e lt is placed =
    (subst IsPlaced (newest-first xs i e lt is) (placed_tail (drop (i + 1) xs) (reverse (take (i + 1) xs)) (subst IsPlaced (sym (beginning xs (i + 1))) placed))).0

-- ---- the faults of a list, where a refusal came after its first events

pub within-beginning : (chosen : Rule → Bool) (tested : Tested) (seen : List Seen) (i : ℕ) (first now : FaultMap)
    → Grows chosen tested (reverse (take i seen)) first now → GrowsWithin chosen tested (reverse seen) first now
within-beginning chosen tested seen i first now h =
    subst (λ log. GrowsWithin chosen tested log first now) (beginning seen i)
    (within-later chosen tested (drop i seen) (reverse (take i seen)) first now (grows-within chosen tested (reverse (take i seen)) first now h))

pub within-next : (chosen : Rule → Bool) (tested : Tested) (seen : List Seen) (i : ℕ) (e : Seen) (first old now : FaultMap) → i < length seen → e ≡ get_or seen i e
    → Grows chosen tested (reverse (take i seen)) first old → GrowsByWithin chosen tested e (reverse (take i seen)) old now → GrowsWithin chosen tested (reverse seen) first now
within-next chosen tested seen i e first old now lt is was more =
    subst (λ log. GrowsWithin chosen tested log first now) (ap (reverse_aux (drop (i + 1) seen)) (sym (newest-first seen i e lt is)) ∙ beginning seen (i + 1))
    (within-later chosen tested (drop (i + 1) seen) (e ∷ reverse (take i seen)) first now (within-step chosen tested e (reverse (take i seen)) first old now was more))

pub grows-next : (chosen : Rule → Bool) (tested : Tested) (seen : List Seen) (i : ℕ) (e : Seen) (first old now : FaultMap) → i < length seen → e ≡ get_or seen i e
    → Grows chosen tested (reverse (take i seen)) first old → GrowsBy chosen tested e (reverse (take i seen)) old now → Grows chosen tested (reverse (take (i + 1) seen)) first now
grows-next chosen tested seen i e first old now lt is was more =
    subst (λ log. Grows chosen tested log first now) (sym (newest-first seen i e lt is)) (grows-step chosen tested e (reverse (take i seen)) first old now was more)

-- Judging one statement at one event, under the fate of its connection where that counts: the fault that it adds.
use Rattle.std.proofs.Common.{◌≡◌, ℕ, ◌+◌, ◌==◌, Bool, true, false, cond, ◌&&◌, List, ◌∷◌, length, Option, Some, None, refl, ap, sym, ◌∙◌, subst}
use Rattle.std.specs.Option.{option_or}
use denote.Enum.Bare.{same_true}
use Rattle.mq_rules.specs.contracts.rule.Rule.{the_type}
use Rattle.mq_rules.specs.declared.role.Tested.{Tested}
use Rattle.mq_rules.specs.declared.rule.Rule.{Rule}
use Rattle.mq_rules.specs.declared.note.Seen.{Seen}
use Rattle.mq_rules.specs.declared.fault.Fault.{Fault}
use Rattle.mq_rules.specs.declared.fate.Fate.{Fate}
use Rattle.mq_rules.specs.Moments.{Moment, newest, moment, is_next}
use Rattle.mq_rules.specs.Connections.{accepts}
use Rattle.mq_rules.specs.Rules.{binds, same_rule}
use Rattle.mq_rules.specs.Statements.{statement, on_past, in_session, at_release}
use Rattle.mq_rules.specs.Steps.{shows, turns}
use Rattle.mq_rules.specs.Under.{shows_with, turns_with}
use Rattle.mq_rules.specs.FaultKeys.{FaultMap, with_fault}
use Rattle.mq_rules.specs.Faults.{offset_of, reported}
use Rattle.mq_rules.specs.Growing.{Gains}
use Rattle.mq_rules.proofs.Exports.{and-past, and_false, fault_at-with_fault, gains_nothing}
use Rattle.mq_plain.specs.declared.turn.Turn.{Turn}
use Rattle.mq_plain.specs.Blames.{decided_by}

-- ---- the fault

-- It says where the statement is broken, and that nowhere in the packet.
pub record IsPlain (tested : Tested) (rule : Rule) : Type 0 where
  pub offset : (m : Option Moment) → offset_of (statement tested.role rule) m ≡ None

-- Of a statement that is judged at the newest event, those of the pairs that turn out to fail with it: where the statement isn't broken, nothing is added.
pub unbroken-gains : (tested : Tested) (rule : Rule) (fails : ℕ → Rule → Bool) (e : Seen) (past : List Seen) (at : ℕ) (broken : Bool) (faults : FaultMap)
    → ((k : ℕ) → fails k rule ≡ (is_next past k && broken)) → broken ≡ false
    → Gains (λ k r. same_rule r rule && fails k r) tested (e ∷ past) at faults faults
unbroken-gains tested rule fails e past at broken faults turns_so unbroken = gains_nothing (λ k r. same_rule r rule && fails k r) tested (e ∷ past) at faults (λ k r. go k r (same_rule r rule) refl)
  where
    go : (k : ℕ) (r : Rule) (s : Bool) → same_rule r rule ≡ s → (s && fails k r) ≡ false
    go k r false is = refl
    go k r true is = ap (fails k) (same_true the_type tt r rule is) ∙ turns_so k ∙ ap (λ b. is_next past k && b) unbroken ∙ and_false (is_next past k)

-- where it is, the fault of its place
pub broken-gains : (tested : Tested) (rule named : Rule) (fails : ℕ → Rule → Bool) (e : Seen) (past : List Seen) (at : ℕ) (broken : Bool) (old new : FaultMap) → e.place.position ≡ length past + 1
    → IsPlain tested rule → ((k : ℕ) → fails k rule ≡ (is_next past k && broken)) → broken ≡ true → named ≡ rule
    → new ≡ with_fault (record { position = e.place.position; rule = named }) (decided_by at e.place) old
    → Gains (λ k r. same_rule r rule && fails k r) tested (e ∷ past) at old new
broken-gains tested rule named fails e past at broken old new placed plain turns_so breaks names now =
    subst (Gains (λ k r. same_rule r rule && fails k r) tested (e ∷ past) at old) (sym (now ∙ ap (λ n. with_fault (record { position = e.place.position; rule = n }) here old) names)) (record {
      each = λ k r. fault_at-with_fault old e.place.position k rule r here ∙ ap (option_or _) (go k r (same_rule r rule) refl);
    })
  where
    here : Fault
    here = decided_by at e.place

    -- the fault of the newest event, as it is reported
    told : (k : ℕ) (t : Bool) → is_next past k ≡ t → cond (t && true) (Some here) None ≡ cond (t && true) (Some (reported tested.role (moment (e ∷ past) k) rule at)) None
    told k false h = refl
    told k true h =
        ap (λ o. Some (record { decided = at; record_no = e.place.record_no; offset = o })) (sym (plain.offset (Some (newest e past))))
        ∙ ap (λ n. Some (reported tested.role (cond n (Some (newest e past)) (moment past k)) rule at)) (sym h)

    own : (k : ℕ) → cond ((k == e.place.position) && true) (Some here) None ≡ cond (fails k rule) (Some (reported tested.role (moment (e ∷ past) k) rule at)) None
    own k =
        ap (λ p. cond ((k == p) && true) (Some here) None) placed
        ∙ told k (is_next past k) refl
        ∙ ap (λ b. cond (is_next past k && b) (Some (reported tested.role (moment (e ∷ past) k) rule at)) None) (sym breaks)
        ∙ ap (λ t. cond t (Some (reported tested.role (moment (e ∷ past) k) rule at)) None) (sym (turns_so k))

    go : (k : ℕ) (r : Rule) (s : Bool) → same_rule r rule ≡ s
        → cond ((k == e.place.position) && s) (Some here) None ≡ cond (s && fails k r) (Some (reported tested.role (moment (e ∷ past) k) r at)) None
    go k r false is = ap (λ t. cond t (Some here) None) (and_false (k == e.place.position))
    go k r true is = subst (λ (q : Rule). cond ((k == e.place.position) && true) (Some here) None ≡ cond (fails k q) (Some (reported tested.role (moment (e ∷ past) k) q at)) None) (sym (same_true the_type tt r rule is)) (own k)

-- ---- a statement on sessions

pub session-plain : (tested : Tested) (rule : Rule) (breaks : Fate → Moment → Bool) → statement tested.role rule ≡ in_session breaks → IsPlain tested rule
session-plain tested rule breaks says = record { offset = λ m. ap (λ s. offset_of s m) says }

-- it turns out false at most at the event itself
pub session-at : (turn : Turn) (rule : Rule) (breaks : Fate → Moment → Bool) (e : Seen) (past : List Seen) (bound broken : Bool) → statement turn.tested.role rule ≡ in_session breaks → bound ≡ binds rule turn.tested
    → broken ≡ (bound && (accepts turn.fate && breaks turn.fate (newest e past))) → (k : ℕ) → turns_with turn.tested turn.fate e past k rule ≡ (is_next past k && broken)
unfolding turns_with
session-at turn rule breaks e past bound broken says binds_it broken_so k =
    ap (λ s. binds rule turn.tested && shows_with turn.tested.role turn.fate s e past k) says
    ∙ and-past (binds rule turn.tested) (is_next past k) (accepts turn.fate && breaks turn.fate (newest e past))
    ∙ ap (λ b. is_next past k && b) (sym (broken_so ∙ ap (λ b. b && (accepts turn.fate && breaks turn.fate (newest e past))) binds_it))

-- ---- a statement on releases

pub release-plain : (tested : Tested) (rule : Rule) (breaks : Fate → Moment → Bool) → statement tested.role rule ≡ at_release breaks → IsPlain tested rule
release-plain tested rule breaks says = record { offset = λ m. ap (λ s. offset_of s m) says }

pub release-at : (turn : Turn) (rule : Rule) (breaks : Fate → Moment → Bool) (e : Seen) (past : List Seen) (bound broken : Bool) → statement turn.tested.role rule ≡ at_release breaks → bound ≡ binds rule turn.tested
    → broken ≡ (bound && breaks turn.fate (newest e past)) → (k : ℕ) → turns_with turn.tested turn.fate e past k rule ≡ (is_next past k && broken)
unfolding turns_with
release-at turn rule breaks e past bound broken says binds_it broken_so k =
    ap (λ s. binds rule turn.tested && shows_with turn.tested.role turn.fate s e past k) says
    ∙ and-past (binds rule turn.tested) (is_next past k) (breaks turn.fate (newest e past))
    ∙ ap (λ b. is_next past k && b) (sym (broken_so ∙ ap (λ b. b && breaks turn.fate (newest e past)) binds_it))

-- ---- a statement on the past of a connection

pub past-plain : (tested : Tested) (rule : Rule) (breaks : Moment → Bool) → statement tested.role rule ≡ on_past breaks → IsPlain tested rule
past-plain tested rule breaks says = record { offset = λ m. ap (λ s. offset_of s m) says }

pub past-at : (tested : Tested) (rule : Rule) (breaks : Moment → Bool) (e : Seen) (past : List Seen) (bound broken : Bool) → statement tested.role rule ≡ on_past breaks → bound ≡ binds rule tested
    → broken ≡ (bound && breaks (newest e past)) → (k : ℕ) → turns tested e past k rule ≡ (is_next past k && broken)
unfolding turns
past-at tested rule breaks e past bound broken says binds_it broken_so k =
    ap (λ s. binds rule tested && shows tested.role s e past k) says
    ∙ and-past (binds rule tested) (is_next past k) (breaks (newest e past))
    ∙ ap (λ b. is_next past k && b) (sym (broken_so ∙ ap (λ b. b && breaks (newest e past)) binds_it))

-- Which reasons are those of the faults at a position: the ones that come first when those of the earlier faults have been passed.
use Rattle.std.proofs.Common.{◌≡◌, ℕ, ◌+◌, ◌==◌, Bool, true, false, ◌||◌, nat_le, nat_lt, arith, List, [], ◌∷◌, ◌++◌, length, Option, Some, None, refl, sym, ap, subst, ◌∙◌}
use Rattle.std.specs.Prelude.{T}
use Rattle.std.specs.FinMap as map
use Rattle.std.specs.FinMap.{is_sorted, entries_sorted}
use Rattle.std.specs.FinMap.Entries.{below_all}
use Rattle.std.specs.List.{list_any}
use Rattle.std.proofs.lemmas.Bool.Decides.{nat_tests}
use Rattle.std.proofs.lemmas.List.{length-map}
use Rattle.mq_log.specs.Events.{Placed}
use Rattle.mq_log.specs.Reception.{AreEvents}
use Rattle.mq_rules.specs.declared.fault.Fault.{Fault}
use Rattle.mq_rules.specs.declared.faults.FaultKey.{FaultKey}
use Rattle.mq_rules.specs.FaultKeys.{FaultMap, faults_at, key_cmp}
use Rattle.mq_rules.specs.Moments.{IsPlaced}
use Rattle.mq_rules.specs.Notes.{seen, seen_in}
use Rattle.mq_rules.proofs.Exports.{orderly}
use Rattle.mq_rules.specs.declared.evidence.Evidence.{Evidence}
use Rattle.mq_display.specs.Calendar.{time_words}
use Rattle.mq_report.specs.Reasons.{later_reasons}
use Rattle.mq_display.specs.Outgoing.{Carries, Puts}
use Rattle.mq_display.specs.Display.{Annotation, annotated, event_text_after, explained, explained_at, fault_notes, is_near, is_within, reason_of_first, shown_line, text_if}
use Rattle.mq_display.specs.Views.{HasPassed, IsStateAfter, annotation_of, left_here, reasons_from, reasons_past, text_by, text_here}
use Rattle.mq_display.specs.declared.display.annotated.Annotated.{Annotated}
use Rattle.mq_display.specs.declared.display.outgoing.Outgoing.{Outgoing}
use Rattle.mq_display.specs.declared.display.view.View.TheVariants as views
use Rattle.mq_display.proofs.NearLaws.{before_positions, both_first, both_second}

-- ---- positions

not_earlier : (a b p : ℕ) → nat_lt a p ≡ false → nat_le a b ≡ true → nat_lt b p ≡ false
not_earlier a b p h l = grind arith

not_both : (a p : ℕ) → nat_lt a p ≡ true → (a == p) ≡ true → ⊥
not_both a p h e = grind (arith, nat_tests)

later_than : (a b p : ℕ) → nat_lt a p ≡ false → (a == p) ≡ false → nat_le a b ≡ true → (b == p) ≡ false
later_than a b p h e l = grind (arith, nat_tests)

before_next : (a p : ℕ) → nat_lt a p ≡ true → nat_lt a (p + 1) ≡ true
before_next a p h = grind arith

here_next : (a p : ℕ) → (a == p) ≡ true → nat_lt a (p + 1) ≡ true
here_next a p e = grind (arith, nat_tests)

not_next : (a p : ℕ) → nat_lt a p ≡ false → (a == p) ≡ false → nat_lt a (p + 1) ≡ false
not_next a p h e = grind (arith, nat_tests)

within_here : (count n p : ℕ) → is_within count n p ≡ false → (n == p) ≡ false
within_here count n p h = grind (arith, nat_tests)

no_earlier : (n : ℕ) → nat_lt n 0 ≡ false
no_earlier n = grind (arith, nat_tests)

-- ---- faults in ascending order

-- after one that is later than a position none is at it
none_after : (p : ℕ) (key : FaultKey) (faults : List (FaultKey × Fault)) → nat_lt key.position p ≡ false → (key.position == p) ≡ false → T (below_all key_cmp key faults)
    → faults_at p faults ≡ []
none_after p key [] h e s = refl
none_after p key (found ∷ faults) h e s =
    rw (later_than key.position found.0.position p h e (before_positions key found.0 (both_first _ _ s))) (none_after p key faults h e (both_second _ _ s))

-- after one that isn't before a position none is before it
none_before : (p : ℕ) (key : FaultKey) (faults : List (FaultKey × Fault)) (reasons : List Evidence) → nat_lt key.position p ≡ false → T (below_all key_cmp key faults)
    → reasons_from p faults reasons ≡ reasons
none_before p key [] reasons h s = refl
none_before p key (found ∷ faults) reasons h s = rw (not_earlier key.position found.0.position p h (before_positions key found.0 (both_first _ _ s))) refl

-- the faults at a position have the first of the reasons that are left there
here_step : (p : ℕ) (found : FaultKey × Fault) (faults : List (FaultKey × Fault)) (reasons : List Evidence) (a b : Bool) → nat_lt found.0.position p ≡ a → (found.0.position == p) ≡ b
    → T (below_all key_cmp found.0 faults) → explained_at p (explained faults (later_reasons reasons)) ≡ explained (faults_at p faults) (reasons_from p faults (later_reasons reasons))
    → explained_at p (explained (found ∷ faults) reasons) ≡ explained (faults_at p (found ∷ faults)) (reasons_from p (found ∷ faults) reasons)
here_step p found faults reasons true true h e s rest = absurd (not_both found.0.position p h e)
here_step p found faults reasons true false h e s rest = rw (h, e) rest
here_step p found faults reasons false true h e s rest =
    rw (h, e) (ap (λ (l : List ((FaultKey × Fault) × Option Evidence)). (found, reason_of_first reasons) ∷ l)
    (rest ∙ ap (λ (r : List Evidence). explained (faults_at p faults) r) (none_before p found.0 faults (later_reasons reasons) h s)))
here_step p found faults reasons false false h e s rest =
    let none = none_after p found.0 faults h e s in
    rw (h, e) (rest ∙ ap (λ (l : List (FaultKey × Fault)). explained l (reasons_from p faults (later_reasons reasons))) none
    ∙ sym (ap (λ (l : List (FaultKey × Fault)). explained l reasons) none))

here_sorted : (p : ℕ) (faults : List (FaultKey × Fault)) (reasons : List Evidence) → T (is_sorted key_cmp faults)
    → explained_at p (explained faults reasons) ≡ explained (faults_at p faults) (reasons_from p faults reasons)
here_sorted p [] reasons s = refl
here_sorted p (found ∷ faults) reasons s =
    here_step p found faults reasons (nat_lt found.0.position p) (found.0.position == p) refl refl (both_first _ _ s) (here_sorted p faults (later_reasons reasons) (both_second _ _ s))

pub explained_here : (p : ℕ) (faults : FaultMap) (reasons : List Evidence)
    → explained_at p (explained (map.entries faults) reasons) ≡ explained (faults_at p (map.entries faults)) (reasons_from p (map.entries faults) reasons)
explained_here p faults reasons = here_sorted p (map.entries faults) reasons (entries_sorted faults)

-- after these the reasons of the faults at later positions are left
past_step : (p : ℕ) (found : FaultKey × Fault) (faults : List (FaultKey × Fault)) (reasons : List Evidence) (a b : Bool) → nat_lt found.0.position p ≡ a → (found.0.position == p) ≡ b
    → T (below_all key_cmp found.0 faults)
    → reasons_past (faults_at p faults) (reasons_from p faults (later_reasons reasons)) ≡ reasons_from (p + 1) faults (later_reasons reasons)
    → reasons_past (faults_at p (found ∷ faults)) (reasons_from p (found ∷ faults) reasons) ≡ reasons_from (p + 1) (found ∷ faults) reasons
past_step p found faults reasons true true h e s rest = absurd (not_both found.0.position p h e)
past_step p found faults reasons true false h e s rest = rw (h, e, before_next found.0.position p h) rest
past_step p found faults reasons false true h e s rest =
    rw (h, e, here_next found.0.position p e)
    (ap (λ (r : List Evidence). reasons_past (faults_at p faults) r) (sym (none_before p found.0 faults (later_reasons reasons) h s)) ∙ rest)
past_step p found faults reasons false false h e s rest =
    rw (h, e, not_next found.0.position p h e) (ap (λ (l : List (FaultKey × Fault)). reasons_past l reasons) (none_after p found.0 faults h e s))

past_sorted : (p : ℕ) (faults : List (FaultKey × Fault)) (reasons : List Evidence) → T (is_sorted key_cmp faults)
    → reasons_past (faults_at p faults) (reasons_from p faults reasons) ≡ reasons_from (p + 1) faults reasons
past_sorted p [] reasons s = refl
past_sorted p (found ∷ faults) reasons s =
    past_step p found faults reasons (nat_lt found.0.position p) (found.0.position == p) refl refl (both_first _ _ s) (past_sorted p faults (later_reasons reasons) (both_second _ _ s))

pub reasons_left : (p : ℕ) (faults : FaultMap) (reasons : List Evidence)
    → reasons_past (faults_at p (map.entries faults)) (reasons_from p (map.entries faults) reasons) ≡ reasons_from (p + 1) (map.entries faults) reasons
reasons_left p faults reasons = past_sorted p (map.entries faults) reasons (entries_sorted faults)

-- before the first position no reason has been passed
from_start : (faults : List (FaultKey × Fault)) (reasons : List Evidence) → reasons_from 0 faults reasons ≡ reasons
from_start [] reasons = refl
from_start (found ∷ faults) reasons = rw (no_earlier found.0.position) refl

pub reasons_begin : (faults : FaultMap) (reasons : List Evidence) → reasons_past (faults_at 0 (map.entries faults)) reasons ≡ reasons_from 1 (map.entries faults) reasons
reasons_begin faults reasons =
    ap (λ (r : List Evidence). reasons_past (faults_at 0 (map.entries faults)) r) (sym (from_start (map.entries faults) reasons)) ∙ reasons_left 0 faults reasons

-- ---- an event

-- no fault is at a position that isn't near to one
within_step : (count p : ℕ) (found : FaultKey × Fault) (faults : List (FaultKey × Fault)) (b : Bool) → is_within count found.0.position p ≡ b
    → (b || list_any (λ (one : FaultKey × Fault). is_within count one.0.position p) faults) ≡ false
    → (list_any (λ (one : FaultKey × Fault). is_within count one.0.position p) faults ≡ false → faults_at p faults ≡ []) → faults_at p (found ∷ faults) ≡ []
within_step count p found faults true is far rest = absurd (let bad : true ≡ false = far in cc)
within_step count p found faults false is far rest = rw (within_here count found.0.position p is) (rest far)

none_within : (count p : ℕ) (faults : List (FaultKey × Fault)) → list_any (λ (found : FaultKey × Fault). is_within count found.0.position p) faults ≡ false → faults_at p faults ≡ []
none_within count p [] h = refl
none_within count p (found ∷ faults) h = within_step count p found faults (is_within count found.0.position p) refl h (λ far. none_within count p faults far)

none_near : (around : Option ℕ) (p : ℕ) (faults : List (FaultKey × Fault)) → is_near around faults p ≡ false → faults_at p faults ≡ []
none_near None p faults h = absurd (let bad : true ≡ false = h in cc)
none_near (Some count) p faults h = none_within count p faults h

-- what is put of it is what is shown of it
put_here : (shown timed : Bool) (a : Annotated) (placed : Placed) → HasPassed placed.place.position a
    → text_here shown timed a placed ≡ text_if shown timed (annotation_of a) a.begins_gap placed
put_here false timed a placed passed = refl
put_here true timed a placed passed =
    ap (λ (l : List ((FaultKey × Fault) × Option Evidence)). shown_line timed a.extent.long placed ++ fault_notes a.role (time_words timed placed.place.moment) l)
    (ap (λ (r : List Evidence). explained (faults_at placed.place.position (map.entries a.faults.now)) r) passed
    ∙ sym (explained_here placed.place.position a.faults.now a.reasons.now))

pub shown_here : (shown timed : Bool) (a : Annotated) (placed : Placed) → shown ≡ is_near a.extent.around (map.entries a.faults.now) placed.place.position
    → HasPassed placed.place.position a → text_here shown timed a placed ≡ event_text_after timed (annotation_of a) a.begins_gap placed
shown_here shown timed a placed near passed =
    put_here shown timed a placed passed ∙ ap (λ (b : Bool). text_if b timed (annotation_of a) a.begins_gap placed) near

-- and the reasons after it are left
pub left_after : (shown : Bool) (a : Annotated) (p : ℕ) → shown ≡ is_near a.extent.around (map.entries a.faults.now) p → HasPassed p a
    → left_here shown a p ≡ reasons_from (p + 1) (map.entries a.faults.now) a.reasons.now
left_after true a p near passed =
    ap (λ (r : List Evidence). reasons_past (faults_at p (map.entries a.faults.now)) r) passed ∙ reasons_left p a.faults.now a.reasons.now
left_after false a p near passed =
    passed ∙ ap (λ (l : List (FaultKey × Fault)). reasons_past l (reasons_from p (map.entries a.faults.now) a.reasons.now)) (sym (none_near a.extent.around p (map.entries a.faults.now) (sym near)))
    ∙ reasons_left p a.faults.now a.reasons.now

-- the position of the next event
pub next_place : (p : Placed) (earlier : List Placed) → AreEvents (p ∷ earlier) → p.place.position ≡ length earlier + 1
unfolding seen_in
next_place p earlier are =
    let same : seen_in are.log ≡ seen p ∷ Rattle.std.specs.Prelude.map seen earlier = ap (Rattle.std.specs.Prelude.map seen) (sym are.are) in
    (subst IsPlaced same (orderly are.limit are.log are.unrefused).placed).0 ∙ ap (λ (n : ℕ). n + 1) (length-map earlier seen)

-- ---- a view with faults, and one event more

-- what it has passed then
pub stands_next : (p : Placed) (earlier : List Placed) (old new : Annotated) → AreEvents (p ∷ earlier) → annotation_of new ≡ annotation_of old
    → new.begins_gap ≡ is_near old.extent.around (map.entries old.faults.now) p.place.position → (HasPassed p.place.position old → HasPassed (p.place.position + 1) new)
    → IsStateAfter earlier (views.Annotated old) → IsStateAfter (p ∷ earlier) (views.Annotated new)
stands_next p earlier old new are same gap passes stands =
    let here = next_place p earlier are in
    let next : p.place.position + 1 ≡ length (p ∷ earlier) + 1 = omega (arith, here) in (
      gap ∙ sym (ap (λ (a : Annotation). is_near a.around a.faults p.place.position) same),
      subst (λ (n : ℕ). HasPassed n new) next (passes (subst (λ (n : ℕ). HasPassed n old) (sym here) stands.1)),
    )

-- what it has put
pub puts_next : {W : Type 0} (contents : W → Option (List ℕ)) (held : Option (List ℕ)) (timed : Bool) (p : Placed) (earlier : List Placed) (view : Annotated) (old new : Outgoing W) → AreEvents (p ∷ earlier)
    → (HasPassed p.place.position view → Puts contents old (event_text_after timed (annotation_of view) view.begins_gap p) new)
    → IsStateAfter earlier (views.Annotated view) → Carries contents held (text_by timed (views.Annotated view) earlier) old → Carries contents held (text_by timed (views.Annotated view) (p ∷ earlier)) new
puts_next contents held timed p earlier view old new are puts stands so_far =
    subst (λ (b : Bool). Carries contents held (annotated timed (annotation_of view) earlier ++ event_text_after timed (annotation_of view) b p) new) stands.0
    ((puts (subst (λ (n : ℕ). HasPassed n view) (sym (next_place p earlier are)) stands.1)).carries held (annotated timed (annotation_of view) earlier) so_far)

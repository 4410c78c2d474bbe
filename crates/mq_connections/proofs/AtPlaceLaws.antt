-- How the faults grow at one place, by several statements and by a list of them.
use Rattle.std.proofs.Common.{◌≡◌, ℕ, ◌+◌, ◌<◌, ◌==◌, Bool, true, false, cond, ◌&&◌, ◌||◌, List, [], ◌∷◌, length, take, drop, get_or, Option, Some, None, refl, ap, sym, subst, ◌∙◌, arith, add-one, zero, suc, ◌⊎◌, inl, inr}
use Rattle.std.specs.Option.{option_or}
use Rattle.mq_log.specs.declared.place.Place3.{Place3}
use Rattle.mq_rules.specs.declared.role.Tested.{Tested}
use Rattle.mq_rules.specs.declared.rule.Rule.{Rule}
use Rattle.mq_rules.specs.declared.rule.Rule.TheVariants.{W01}
use Rattle.mq_rules.specs.declared.fault.Fault.{Fault}
use Rattle.mq_rules.specs.declared.note.Seen.{Seen}
use Rattle.mq_rules.specs.Moments.{moment}
use Rattle.mq_rules.specs.Rules.{same_rule}
use Rattle.mq_rules.specs.Steps.{turns}
use Rattle.mq_rules.specs.FaultKeys.{FaultMap, fault_at, judged}
use Rattle.mq_rules.specs.Faults.{reported}
use Rattle.mq_rules.specs.Growing.{at_place, Judges, JudgesWithin, news, GrowsBy, GrowsByWithin}
use Rattle.mq_connections.specs.Finding.{is_among, is_any_broken}
use Rattle.mq_rules.proofs.Exports.{and_false, fault_at-judged, option_or-none, or_false, same_told}

-- ---- several statements at one place

pub nothing_at : (place : Place3) (k : ℕ) → at_place place k false ≡ None
nothing_at place k = ap (λ b. cond b (Some (record { decided = place.position; record_no = place.record_no; offset = None })) None) (and_false (k == place.position))

-- where no statement is false, the faults are unchanged
pub judges-none : (place : Place3) (faults : FaultMap) → Judges (λ rule. false) place faults faults
judges-none place faults = record { each = λ k rule. sym (ap (option_or (fault_at faults k rule)) (nothing_at place k) ∙ option_or-none (fault_at faults k rule)) }

pub judges-same : (f g : Rule → Bool) (place : Place3) (old new : FaultMap) → ((rule : Rule) → f rule ≡ g rule) → Judges f place old new → Judges g place old new
judges-same f g place old new same h = record { each = λ k rule. h.each k rule ∙ ap (λ b. option_or (fault_at old k rule) (at_place place k b)) (same rule) }

both_at : (place : Place3) (k : ℕ) (o : Option Fault) (f g : Bool) → option_or (option_or o (at_place place k f)) (at_place place k g) ≡ option_or o (at_place place k (f || g))
both_at place k (Some x) f g = refl
both_at place k None f g = go (k == place.position) f g
  where
    go : (t f g : Bool) → option_or {T = Fault} (cond (t && f) (Some (record { decided = place.position; record_no = place.record_no; offset = None })) None) (cond (t && g) (Some (record { decided = place.position; record_no = place.record_no; offset = None })) None)
        ≡ cond {A = Option Fault} (t && (f || g)) (Some (record { decided = place.position; record_no = place.record_no; offset = None })) None
    go true true g = refl
    go true false g = refl
    go false f g = refl

-- some statements in turn, and then others
pub judges-then : (f g : Rule → Bool) (place : Place3) (old mid new : FaultMap) → Judges f place old mid → Judges g place mid new → Judges (λ rule. f rule || g rule) place old new
judges-then f g place old mid new p q = record {
  each = λ k rule. q.each k rule ∙ ap (λ o. option_or o (at_place place k (g rule))) (p.each k rule) ∙ both_at place k (fault_at old k rule) (f rule) (g rule);
}

-- the first of two parts was refused
pub within-first : (f g : Rule → Bool) (place : Place3) (old new : FaultMap) → JudgesWithin f place old new → JudgesWithin (λ rule. f rule || g rule) place old new
within-first f g place old new p = record { each = λ k rule. go k rule (f rule) refl (p.each k rule) }
  where
    go : (k : ℕ) (rule : Rule) (b : Bool) → f rule ≡ b → (fault_at new k rule ≡ fault_at old k rule) ⊎ (fault_at new k rule ≡ option_or (fault_at old k rule) (at_place place k (f rule)))
        → (fault_at new k rule ≡ fault_at old k rule) ⊎ (fault_at new k rule ≡ option_or (fault_at old k rule) (at_place place k (f rule || g rule)))
    go k rule b is (inl same) = inl same
    go k rule true is (inr more) = inr (more ∙ ap (λ t. option_or (fault_at old k rule) (at_place place k t)) (is ∙ sym (ap (λ t. t || g rule) is)))
    go k rule false is (inr more) = inl (more ∙ ap (λ t. option_or (fault_at old k rule) (at_place place k t)) is ∙ ap (option_or (fault_at old k rule)) (nothing_at place k) ∙ option_or-none (fault_at old k rule))

-- the second of two parts was refused
pub within-second : (f g : Rule → Bool) (place : Place3) (old mid new : FaultMap) → Judges f place old mid → JudgesWithin g place mid new → JudgesWithin (λ rule. f rule || g rule) place old new
within-second f g place old mid new p q = record { each = λ k rule. go k rule (f rule) refl (q.each k rule) }
  where
    whole : (k : ℕ) (rule : Rule) → fault_at new k rule ≡ option_or (fault_at mid k rule) (at_place place k (g rule)) → fault_at new k rule ≡ option_or (fault_at old k rule) (at_place place k (f rule || g rule))
    whole k rule more = more ∙ ap (λ o. option_or o (at_place place k (g rule))) (p.each k rule) ∙ both_at place k (fault_at old k rule) (f rule) (g rule)

    go : (k : ℕ) (rule : Rule) (b : Bool) → f rule ≡ b → (fault_at new k rule ≡ fault_at mid k rule) ⊎ (fault_at new k rule ≡ option_or (fault_at mid k rule) (at_place place k (g rule)))
        → (fault_at new k rule ≡ fault_at old k rule) ⊎ (fault_at new k rule ≡ option_or (fault_at old k rule) (at_place place k (f rule || g rule)))
    go k rule b is (inr more) = inr (whole k rule more)
    go k rule true is (inl same) = inr (same ∙ p.each k rule ∙ ap (λ t. option_or (fault_at old k rule) (at_place place k t)) (is ∙ sym (ap (λ t. t || g rule) is)))
    go k rule false is (inl same) = inl (same ∙ p.each k rule ∙ ap (λ t. option_or (fault_at old k rule) (at_place place k t)) is ∙ ap (option_or (fault_at old k rule)) (nothing_at place k) ∙ option_or-none (fault_at old k rule))

-- what was judged in full is within it
pub within-all : (f : Rule → Bool) (place : Place3) (old new : FaultMap) → Judges f place old new → JudgesWithin f place old new
within-all f place old new p = record { each = λ k rule. inr (p.each k rule) }

pub within-same : (f g : Rule → Bool) (place : Place3) (old new : FaultMap) → ((rule : Rule) → f rule ≡ g rule) → JudgesWithin f place old new → JudgesWithin g place old new
within-same f g place old new same h = record { each = λ k rule. go k rule (h.each k rule) }
  where
    go : (k : ℕ) (rule : Rule) → (fault_at new k rule ≡ fault_at old k rule) ⊎ (fault_at new k rule ≡ option_or (fault_at old k rule) (at_place place k (f rule)))
        → (fault_at new k rule ≡ fault_at old k rule) ⊎ (fault_at new k rule ≡ option_or (fault_at old k rule) (at_place place k (g rule)))
    go k rule (inl e) = inl e
    go k rule (inr e) = inr (e ∙ ap (λ b. option_or (fault_at old k rule) (at_place place k b)) (same rule))

-- ---- a list of statements

-- the value that a read of a list names where it has no such place
abbrev pub unasked : Rule × Bool
unasked = (W01, false)

or_last : (a b c : Bool) → (a || (b || c)) ≡ ((a || b) || c)
or_last true b c = refl
or_last false b c = refl

among_more : (vs : List (Rule × Bool)) (i : ℕ) (d : Rule × Bool) (rule : Rule) → i < length vs
    → is_among (take (suc i) vs) rule ≡ (is_among (take i vs) rule || ((get_or vs i d).1 && same_rule rule (get_or vs i d).0))
among_more [] i d rule h = absurd (omega arith)
among_more (v ∷ vs) zero d rule h = or_false (v.1 && same_rule rule v.0)
among_more (v ∷ vs) (suc i) d rule h =
    let lt : i < length vs = omega arith in
    ap (λ b. (v.1 && same_rule rule v.0) || b) (among_more vs i d rule lt)
    ∙ or_last (v.1 && same_rule rule v.0) (is_among (take i vs) rule) ((get_or vs i d).1 && same_rule rule (get_or vs i d).0)

among_parts : (vs : List (Rule × Bool)) (i : ℕ) (rule : Rule) → (is_among (take i vs) rule || is_among (drop i vs) rule) ≡ is_among vs rule
among_parts [] zero rule = refl
among_parts [] (suc i) rule = refl
among_parts (v ∷ vs) zero rule = refl
among_parts (v ∷ vs) (suc i) rule =
    sym (or_last (v.1 && same_rule rule v.0) (is_among (take i vs) rule) (is_among (drop i vs) rule)) ∙ ap (λ b. (v.1 && same_rule rule v.0) || b) (among_parts vs i rule)

and_turn : (a b : Bool) → (a && b) ≡ (b && a)
and_turn true true = refl
and_turn true false = refl
and_turn false true = refl
and_turn false false = refl

-- one statement
pub judges-one : (m : FaultMap) (b : Bool) (s : Rule) (place : Place3) → Judges (λ rule. b && same_rule rule s) place m (judged b s place m)
judges-one m b s place = record {
  each = λ k rule. fault_at-judged m b s rule place k
      ∙ ap (option_or (fault_at m k rule)) (sym (same_told k place.position (same_rule rule s && b) (λ n. record { decided = n; record_no = place.record_no; offset = None }))
      ∙ ap (at_place place k) (and_turn (same_rule rule s) b));
}

-- one statement more of the list
pub judges-more : (vs : List (Rule × Bool)) (i : ℕ) (d : Rule × Bool) (place : Place3) (first old new : FaultMap) → i < length vs
    → Judges (is_among (take i vs)) place first old → new ≡ judged (get_or vs i d).1 (get_or vs i d).0 place old → Judges (is_among (take (i + 1) vs)) place first new
judges-more vs i d place first old new lt was now =
    subst (Judges (is_among (take (i + 1) vs)) place first) (sym now)
    (judges-same (λ rule. is_among (take i vs) rule || ((get_or vs i d).1 && same_rule rule (get_or vs i d).0)) (is_among (take (i + 1) vs)) place first (judged (get_or vs i d).1 (get_or vs i d).0 place old)
    (λ rule. sym (ap (λ n. is_among (take n vs) rule) (add-one i) ∙ among_more vs i d rule lt))
    (judges-then (is_among (take i vs)) (λ rule. (get_or vs i d).1 && same_rule rule (get_or vs i d).0) place first old (judged (get_or vs i d).1 (get_or vs i d).0 place old)
    was (judges-one old (get_or vs i d).1 (get_or vs i d).0 place)))

-- a list of which none is false
no_more : (b t any among : Bool) → (any ≡ false → false ≡ among) → (b || any) ≡ false → false ≡ ((b && t) || among)
no_more true t any among rest e = absurd (cc)
no_more false t any among rest e = rest e

none_among : (vs : List (Rule × Bool)) → is_any_broken vs ≡ false → (rule : Rule) → false ≡ is_among vs rule
none_among [] e rule = refl
none_among (v ∷ vs) e rule = no_more v.1 (same_rule rule v.0) (is_any_broken vs) (is_among vs rule) (λ h. none_among vs h rule) e

pub judges-unbroken : (vs : List (Rule × Bool)) (place : Place3) (faults : FaultMap) → is_any_broken vs ≡ false → Judges (is_among vs) place faults faults
judges-unbroken vs place faults e = judges-same (λ rule. false) (is_among vs) place faults faults (none_among vs e) (judges-none place faults)

-- a list that was judged in part
pub within-part : (vs : List (Rule × Bool)) (i : ℕ) (place : Place3) (old new : FaultMap) → Judges (is_among (take i vs)) place old new → JudgesWithin (is_among vs) place old new
within-part vs i place old new h =
    within-same (λ rule. is_among (take i vs) rule || is_among (drop i vs) rule) (is_among vs) place old new (among_parts vs i)
    (within-first (is_among (take i vs)) (is_among (drop i vs)) place old new (within-all (is_among (take i vs)) place old new h))

-- ---- some statements at an event, and then others

both_added : (o : Option Fault) (a b t : Bool) (x : Fault) → option_or (option_or o (cond (a && t) (Some x) None)) (cond (b && t) (Some x) None) ≡ option_or o (cond ((a || b) && t) (Some x) None)
both_added (Some y) a b t x = refl
both_added None true true true x = refl
both_added None true false true x = refl
both_added None true true false x = refl
both_added None true false false x = refl
both_added None false b t x = refl

-- some statements, and then others
pub grows-then : (f g : Rule → Bool) (tested : Tested) (e : Seen) (past : List Seen) (old mid new : FaultMap)
    → GrowsBy f tested e past old mid → GrowsBy g tested e past mid new → GrowsBy (λ r. f r || g r) tested e past old new
grows-then f g tested e past old mid new p q = record {
  each = λ k r. q.each k r ∙ ap (λ o. option_or o (news g tested e past k r)) (p.each k r)
      ∙ both_added (fault_at old k r) (f r) (g r) (turns tested e past k r) (reported tested.role (moment (e ∷ past) k) r (length past + 1));
}

-- what the second ones may have added to all that the first ones did, both may
second_may : (c d t : Bool) (x y o : Option Fault) (f : Fault) → y ≡ option_or o (cond (c && t) (Some f) None) → (x ≡ y) ⊎ (x ≡ option_or y (cond (d && t) (Some f) None))
    → (x ≡ o) ⊎ (x ≡ option_or o (cond ((c || d) && t) (Some f) None))
second_may true d t x y o f first (inl same) = inr (same ∙ first)
second_may false d t x y o f first (inl same) = inl (same ∙ first ∙ option_or-none o)
second_may c d t x y o f first (inr more) = inr (more ∙ ap (λ z. option_or z (cond (d && t) (Some f) None)) first ∙ both_added o c d t f)

pub second-within : (f g : Rule → Bool) (tested : Tested) (e : Seen) (past : List Seen) (old mid new : FaultMap)
    → GrowsBy f tested e past old mid → GrowsByWithin g tested e past mid new → GrowsByWithin (λ r. f r || g r) tested e past old new
second-within f g tested e past old mid new p q = record {
  each = λ k r. second_may (f r) (g r) (turns tested e past k r) (fault_at new k r) (fault_at mid k r) (fault_at old k r) (reported tested.role (moment (e ∷ past) k) r (length past + 1)) (p.each k r) (q.each k r);
}
